-- Laws of numbers as decimal digits.
use Rattle.std.proofs.Common.{◌≡◌, ℕ, ◌+◌, ◌-◌, ◌*◌, ◌^◌, ◌<◌, ◌≤◌, true, false, cond, ltb, List, [], ◌∷◌, length, get_or, drop, Some, None, Option, sym, refl, ap, ◌∙◌, arith}
use Rattle.std.specs.Char.{is_ascii_digit}
use Rattle.std.proofs.lemmas.List.{at_drop_more, at_drop_all}
use Rattle.std.proofs.lemmas.Bool.{cond-true, cond-false, le-ltb, lt-ltb}
use Rattle.words.specs.Numbers.{onward, narrow}

-- More digits don't make a number smaller.
too_large : (n : ℕ) (text : List ℕ) → 2 ^ 32 ≤ n → narrow (onward n text) ≡ None
too_large n [] h = cond-false (ltb n (2 ^ 32)) (Some n) None (le-ltb n (2 ^ 32) h)
too_large n (c ∷ text) h =
    elim (is_ascii_digit c) as (λ b. narrow (cond b (onward (n * 10 + (c - 48)) text) None) ≡ None) [
      | true ↦ too_large (n * 10 + (c - 48)) text (omega arith)
      | false ↦ refl
    ]

module _ (text : List ℕ) (i n : ℕ) (all : Option ℕ) (lt : i < length text) (inv : narrow (onward n (drop i text)) ≡ all) where
  next : narrow (cond (is_ascii_digit (get_or text i 0)) (onward (n * 10 + (get_or text i 0 - 48)) (drop (i + 1) text)) None) ≡ all
  next = sym (at_drop_more (λ l. narrow (onward n l)) text i 0 lt) ∙ inv

  -- A character that is no digit.
  pub stops : false ≡ is_ascii_digit (get_or text i 0) → None ≡ all
  stops no_digit = ap (λ b. narrow (cond b (onward (n * 10 + (get_or text i 0 - 48)) (drop (i + 1) text)) None)) no_digit ∙ next

  -- One digit more.
  pub goes : true ≡ is_ascii_digit (get_or text i 0) → narrow (onward (n * 10 + (get_or text i 0 - 48)) (drop (i + 1) text)) ≡ all
  goes a-digit = ap (λ b. narrow (cond b (onward (n * 10 + (get_or text i 0 - 48)) (drop (i + 1) text)) None)) a-digit ∙ next

  -- One digit too many.
  pub overflows : true ≡ is_ascii_digit (get_or text i 0) → 2 ^ 32 ≤ n * 10 + (get_or text i 0 - 48) → None ≡ all
  overflows a-digit large = sym (too_large (n * 10 + (get_or text i 0 - 48)) (drop (i + 1) text) large) ∙ goes a-digit

-- No character is left.
pub ends : (text : List ℕ) (i n : ℕ) (all : Option ℕ) → length text ≤ i → n < 2 ^ 32 → narrow (onward n (drop i text)) ≡ all → Some n ≡ all
ends text i n all past small inv =
    let e : narrow (onward n (drop i text)) ≡ narrow (Some n) = at_drop_all (λ l. narrow (onward n l)) text i past in
    sym (cond-true (ltb n (2 ^ 32)) (Some n) None (lt-ltb n (2 ^ 32) small)) ∙ sym e ∙ inv
