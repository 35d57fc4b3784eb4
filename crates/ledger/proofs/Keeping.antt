-- What a ledger's fields are to each other after a move more.
use Rattle.std.proofs.Common.{◌≡◌, ℕ, zero, suc, ◌^◌, ◌<◌, Bool, true, List, [], ◌∷◌, ◌++◌, length, get_or, take, Some, None, Option, sym, refl, ap, ◌∙◌, subst, le_of_suc-le-suc, not-suc-le-zero}
use Rattle.ledger.specs.declared.moves.Move.{Move}
use Rattle.ledger.specs.Book.{Book, played, after, there, all_there, blank}
use Rattle.ledger.proofs.Books.{played_more, there_more, sound}

module _ (d : ℕ) (ms : List Move) (all : all_there d ms ≡ true) where
  -- Each place is in the list.
  pub sized : (standing : List (Option ℕ)) → standing ≡ (after d ms).standing → length standing ≡ 2 ^ d
  sized standing e = ap length e ∙ (sound d ms all).size

  -- The puts that stand are puts that there were.
  pub below : (standing : List (Option ℕ)) (seen : List Bool) → standing ≡ (after d ms).standing → seen ≡ (after d ms).seen → (p c : ℕ) → p < length standing → get_or standing p None ≡ Some c → c < length seen
  below standing seen e f p c l g =
      subst (λ (n : ℕ). c < n) (ap length (sym f)) ((sound d ms all).below p c (subst (λ (n : ℕ). p < n) (sized standing e) l) (ap (λ (x : List (Option ℕ)). get_or x p None) (sym e) ∙ g))

  -- One move more.
  all_more : (m : Move) (new : List Move) → new ≡ ms ++ m ∷ [] → there d m ≡ true → all_there d new ≡ true
  all_more m new is h = ap (all_there d) is ∙ there_more d ms m all h

  book_more : (m : Move) (new : List Move) → new ≡ ms ++ m ∷ [] → after d new ≡ played m (after d ms)
  book_more m new is = ap (after d) is ∙ played_more ms m (blank d)

  module _ (standing : List (Option ℕ)) (seen : List Bool) (stands : standing ≡ (after d ms).standing) (saw : seen ≡ (after d ms).seen) (new : List Move) where
    -- The fields after a move.
    abbrev pub Fields : List (Option ℕ) → List Bool → Type 0
    Fields os bs = (all_there d new ≡ true) × (os ≡ (after d new).standing) × (bs ≡ (after d new).seen)

    pub fields-played : (m : Move) → there d m ≡ true → new ≡ ms ++ m ∷ [] → (os : List (Option ℕ)) (bs : List Bool) → os ≡ (played m (record { standing = standing; seen = seen })).standing → bs ≡ (played m (record { standing = standing; seen = seen })).seen → Fields os bs
    fields-played m h is os bs e f =
        let b : played m (record { standing = standing; seen = seen }) ≡ after d new =
        ap (λ os. played m (record { standing = os; seen = seen })) stands ∙ ap (λ bs. played m (record { standing = (after d ms).standing; seen = bs })) saw ∙ sym (book_more m new is) in
        (all_more m new is h, e ∙ ap (λ (x : Book). x.standing) b, f ∙ ap (λ (x : Book). x.seen) b)

-- What stands in a list at an index within does not hang on the default.
pub any-default : {A : Type 0} (xs : List A) (i : ℕ) (a b : A) → i < length xs → get_or xs i a ≡ get_or xs i b
any-default [] i a b l = absurd (not-suc-le-zero l)
any-default (x ∷ xs) zero a b l = refl
any-default (x ∷ xs) (suc i) a b l = any-default xs i a b (le_of_suc-le-suc l)

-- A list written over as many elements.
pub front : {A : Type 0} (n : ℕ) (xs ys : List A) → length xs ≡ n → take n (xs ++ ys) ≡ xs
front {A = A} n xs ys e = ap (λ (k : ℕ). take k (xs ++ ys)) (sym e) ∙ whole xs
  where
    whole : (zs : List A) → take (length zs) (zs ++ ys) ≡ zs
    whole [] = refl
    whole (z ∷ zs) = ap (λ (r : List A). z ∷ r) (whole zs)
