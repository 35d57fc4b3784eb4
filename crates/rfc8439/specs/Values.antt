-- Worked values of RFC 8439, as equations of the definitions that the code's contracts cite.
use Rattle.std.specs.Prelude.{◌≡◌, List, [], ◌∷◌, reverse, ℕ, codes}
use Rattle.octets.specs.Endian.{le_bytes}
use Rattle.chacha20.specs.ChaCha20.{quarter_round, block, encrypt}
use Rattle.poly1305.specs.Poly1305.{mac}
use Rattle.sealing.specs.Aead.{one_time_key, ciphertext, tag}

-- The n bytes of a string that is written as one hex number.
abbrev pub hex : (n digits : ℕ) → List ℕ
hex n digits = reverse (le_bytes n digits)

-- The text of sections 2.4.2 and 2.8.2.
abbrev pub sunscreen : List ℕ
sunscreen = codes "Ladies and Gentlemen of the class of '99: If I could offer you only one tip for the future, sunscreen would be it."

pub record Values : Type 0 where
  -- 2.1.1
  pub quarter_round_lem : quarter_round (0x11111111 ∷ 0x01020304 ∷ 0x9b8d6f43 ∷ 0x01234567 ∷ []) 0 1 2 3 ≡ 0xea2a92f4 ∷ 0xcb1cf8ce ∷ 0x4581472e ∷ 0x5881c4bb ∷ []
  -- 2.2.1
  pub quarter_round_on_state :
      quarter_round
      (0x879531e0 ∷ 0xc5ecf37d ∷ 0x516461b1 ∷ 0xc9a62f8a ∷ 0x44c20ef3 ∷ 0x3390af7f ∷ 0xd9fc690b ∷ 0x2a5f714c
      ∷ 0x53372767 ∷ 0xb00a5631 ∷ 0x974c541a ∷ 0x359e9963 ∷ 0x5c971061 ∷ 0x3d631689 ∷ 0x2098d9d6 ∷ 0x91dbd320 ∷ []) 2 7 8 13
      ≡ 0x879531e0 ∷ 0xc5ecf37d ∷ 0xbdb886dc ∷ 0xc9a62f8a ∷ 0x44c20ef3 ∷ 0x3390af7f ∷ 0xd9fc690b ∷ 0xcfacafd2
      ∷ 0xe46bea80 ∷ 0xb00a5631 ∷ 0x974c541a ∷ 0x359e9963 ∷ 0x5c971061 ∷ 0xccc07c79 ∷ 0x2098d9d6 ∷ 0x91dbd320 ∷ []
  -- 2.3.2
  pub a_block :
      block (hex 32 0x000102030405060708090a0b0c0d0e0f101112131415161718191a1b1c1d1e1f) 1 (hex 12 0x000000090000004a00000000)
      ≡ hex 64 0x10f1e7e4d13b5915500fdd1fa32071c4c7d1f4c733c068030422aa9ac3d46c4ed2826446079faa0914c2d705d98b02a2b5129cd1de164eb9cbd083e8a2503c4e
  -- 2.4.2
  pub a_stream :
      encrypt (hex 32 0x000102030405060708090a0b0c0d0e0f101112131415161718191a1b1c1d1e1f) 1 (hex 12 0x000000000000004a00000000) sunscreen
      ≡ hex 114 0x6e2e359a2568f98041ba0728dd0d6981e97e7aec1d4360c20a27afccfd9fae0bf91b65c5524733ab8f593dabcd62b3571639d624e65152ab8f530c359f0861d807ca0dbf500d6a6156a38e088a22b65e52bc514d16ccf806818ce91ab77937365af90bbf74a35be6b40b8eedf2785e42874d
  -- 2.5.2
  pub a_mark :
      mac (hex 32 0x85d6be7857556d337f4452fe42d506a80103808afb0db2fd4abff6af4149f51b) (codes "Cryptographic Forum Research Group")
      ≡ hex 16 0xa8061dc1305136c6c22b8baf0c0127a9
  -- 2.6.2
  pub a_one_time_key :
      one_time_key (hex 32 0x808182838485868788898a8b8c8d8e8f909192939495969798999a9b9c9d9e9f) (hex 12 0x000000000001020304050607)
      ≡ hex 32 0x8ad5a08b905f81cc815040274ab29471a833b637e3fd0da508dbb8e2fdd1a646
  -- 2.8.2
  pub a_ciphertext :
      ciphertext (hex 32 0x808182838485868788898a8b8c8d8e8f909192939495969798999a9b9c9d9e9f) (hex 12 0x070000004041424344454647) sunscreen
      ≡ hex 114 0xd31a8d34648e60db7b86afbc53ef7ec2a4aded51296e08fea9e2b5a736ee62d63dbea45e8ca9671282fafb69da92728b1a71de0a9e060b2905d6a5b67ecd3b3692ddbd7f2d778b8c9803aee328091b58fab324e4fad675945585808b4831d7bc3ff4def08e4b7a9de576d26586cec64b6116
  pub a_tag :
      tag (hex 32 0x808182838485868788898a8b8c8d8e8f909192939495969798999a9b9c9d9e9f) (hex 12 0x070000004041424344454647) (hex 12 0x50515253c0c1c2c3c4c5c6c7)
      (hex 114 0xd31a8d34648e60db7b86afbc53ef7ec2a4aded51296e08fea9e2b5a736ee62d63dbea45e8ca9671282fafb69da92728b1a71de0a9e060b2905d6a5b67ecd3b3692ddbd7f2d778b8c9803aee328091b58fab324e4fad675945585808b4831d7bc3ff4def08e4b7a9de576d26586cec64b6116)
      ≡ hex 16 0x1ae10b594f09e26a7e902ecbd0600691
  -- A.1, number 3
  pub another_block :
      block (hex 32 0x01) 1 (hex 12 0)
      ≡ hex 64 0x3aeb5224ecf849929b9d828db1ced4dd832025e8018b8160b82284f3c949aa5a8eca00bbb4a73bdad192b5c42f73f2fd4e273644c8b36125a64addeb006c13a0
  -- A.3, numbers 7 to 11: sums about the prime
  pub mark_7 : mac (hex 32 0x0200000000000000000000000000000000000000000000000000000000000000) (hex 16 0xffffffffffffffffffffffffffffffff) ≡ hex 16 0x03000000000000000000000000000000
  pub mark_8 :
      mac (hex 32 0x02000000000000000000000000000000ffffffffffffffffffffffffffffffff) (hex 16 0x02000000000000000000000000000000)
      ≡ hex 16 0x03000000000000000000000000000000
  pub mark_9 :
      mac (hex 32 0x0100000000000000000000000000000000000000000000000000000000000000)
      (hex 48 0xfffffffffffffffffffffffffffffffff0ffffffffffffffffffffffffffffff11000000000000000000000000000000)
      ≡ hex 16 0x05000000000000000000000000000000
  pub mark_10 :
      mac (hex 32 0x0100000000000000000000000000000000000000000000000000000000000000)
      (hex 48 0xfffffffffffffffffffffffffffffffffbfefefefefefefefefefefefefefefe01010101010101010101010101010101)
      ≡ hex 16 0
