-- Laws of what words come to.
use Rattle.std.proofs.Common.{◌≡◌, ℕ, eqb, List, length, Some, None, Ok, Err, Option, Result, sym, ap, ◌∙◌}
use Rattle.std.specs.Option.{ok_or, option_map}
use Rattle.std.specs.Result.{MatchResult, result_or}
use Rattle.std.proofs.lemmas.Bool.{cond-true, cond-false, eq-eqb, ne_eqb}
use Rattle.fields.specs.declared.field.Field.{Field}
use Rattle.fields.specs.declared.faults.Failure.{Failure}
use Rattle.fields.specs.declared.faults.Failure.TheVariants as fails
use Rattle.fields.specs.declared.faults.Malformed.{Malformed}
use Rattle.fields.specs.declared.faults.Malformed.TheVariants.{Length}
use Rattle.fields.specs.Fields.{sized, Complains}

-- What fails in a part fails in the whole.
pub fails_too : {Y Z : Type 0} (e : Failure) (part : Result Y Malformed) (whole : Result Z Malformed) (f : Result Y Malformed → Result Z Malformed) → whole ≡ f part → ((why : Malformed) → f (Err why) ≡ Err why) → Complains e part → Complains e whole
fails_too (fails.Malformed why) part whole f is passes h = is ∙ ap f h ∙ passes why
fails_too (fails.Refused why) part whole f is passes h = h
fails_too fails.Memory part whole f is passes h = tt

-- A value that is there, or the complaint in its place.
module _ {X Y E : Type 0} (f : X → Y) (why : E) where
  pub there : (o : Option X) (x : X) → Ok x ≡ ok_or o why → ok_or (option_map f o) why ≡ Ok (f x)
  there None x h = cc
  there (Some y) x h = cc

  pub missing : (o : Option X) (e : E) → Err e ≡ ok_or o why → ok_or (option_map f o) why ≡ Err e
  missing None e h = cc
  missing (Some y) e h = cc

-- A result with another error.
module _ {X E F : Type 0} (why : F) where
  pub was_ok : (r : Result X E) (x : X) → Ok x ≡ result_or r (Err why) → r ≡ Ok x
  was_ok (Ok y) x h = cc
  was_ok (Err e) x h = cc

  pub was_err : (r : Result X E) (f : F) (Good : X → Type 0) (Bad : Type 0) → Err f ≡ result_or r (Err why) → MatchResult r Good (λ _. Bad) → Bad × (f ≡ why)
  was_err (Ok y) f Good Bad h told = absurd (cc)
  was_err (Err e) f Good Bad h told = (told, cc)

-- A byte string that has, or has not, the length that is asked for.
module _ (n : ℕ) (field : Field) (said : Result (List ℕ) Malformed) (bytes : List ℕ) (is : said ≡ Ok bytes) where
  pub long_enough : (array : List ℕ) → array ≡ bytes → length bytes ≡ n → sized n field said ≡ Ok array
  long_enough array same long =
      ap (sized n field) is ∙ cond-true (eqb (length bytes) n) (Ok bytes) (Err (Length field n)) (eq-eqb (length bytes) n long) ∙ ap Ok (sym same)

  pub another_length : (length bytes ≡ n → ⊥) → sized n field said ≡ Err (Length field n)
  another_length other = ap (sized n field) is ∙ cond-false (eqb (length bytes) n) (Ok bytes) (Err (Length field n)) (ne_eqb (length bytes) n other)
