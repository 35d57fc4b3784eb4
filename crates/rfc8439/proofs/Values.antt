-- Each value by computing.
use mathlib.Core.Path.{refl}
use Rattle.octets.specs.Endian.{le, le_bytes}
use Rattle.chacha20.specs.ChaCha20.{plus, rotl, line, double_rounds, word, initial, serialize, output, key_stream, encrypt}
use Rattle.poly1305.specs.Poly1305.{prime, clamp, absorb, absorb_all, blocks, padded}
use Rattle.sealing.specs.Aead.{ciphertext, mac_data, tag}
use Rattle.rfc8439.specs.Values.{Values}

pub values : Values
unfolding le le_bytes plus rotl line double_rounds word initial serialize output key_stream encrypt prime clamp absorb absorb_all blocks padded ciphertext mac_data tag
values =
    record {
      quarter_round_lem = refl;
      quarter_round_on_state = refl;
      a_block = refl;
      a_stream = refl;
      a_mark = refl;
      a_one_time_key = refl;
      a_ciphertext = refl;
      a_tag = refl;
      another_block = refl;
      mark_7 = refl;
      mark_8 = refl;
      mark_9 = refl;
      mark_10 = refl;
    }
