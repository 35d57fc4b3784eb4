-- Laws of reading one field after another.
use Rattle.std.proofs.Common.{◌≡◌, ℕ, List, [], ◌∷◌, map, length, Ok, Result, refl, ap, ◌∙◌, arith, Bor}
use Rattle.std.specs.Prelude.{slice_index_or}
use Rattle.std.specs.Result.{IsErrAnd}
use Rattle.std.proofs.lemmas.Result.{err_from_is_err_and}
use Rattle.fields.specs.Fields.{Complains, Reads}
use Rattle.fields.specs.declared.faults.Failure.{Failure}
use Rattle.fields.specs.declared.faults.Failure.TheVariants as fails
use Rattle.fields.specs.declared.faults.Malformed.{Malformed}
use Rattle.seal_commands.specs.Parsed.{Task, and_then, counted}

-- A field that is read.
pub reads : {X Y : Type 0} {part : Result X Malformed} {x : X} (next : X → Result Y Malformed) → part ≡ Ok x → and_then part next ≡ next x
unfolding and_then
reads next e = ap (λ p. and_then p next) e

-- A field that is not read, after others that were.
stops : {X Y : Type 0} (e : Failure) (part : Result X Malformed) (next : X → Result Y Malformed) (whole : Result Y Malformed) → whole ≡ and_then part next → Complains e part → Complains e whole
unfolding and_then
stops (fails.Malformed why) part next whole is h = is ∙ ap (λ p. and_then p next) h
stops (fails.Refused why) part next whole is h = h
stops fails.Memory part next whole is h = tt

-- The exit at a field that is not read.
pub exits : {X Y Z : Type 0} (value : X → Z) (r : Result X Failure) (e : Failure) (part : Result Y Malformed) (next : Y → Result Z Malformed) (whole : Result Z Malformed) → IsErrAnd r (λ d. d ≡ e) → whole ≡ and_then part next → Complains e part → Reads value r whole
exits value r e part next whole is from h =
    let p = err_from_is_err_and r is in
    rw (p.1, p.2) (stops e part next whole from h)

-- So many fields.
abbrev words : List (Bor (List ℕ)) → List (List ℕ)
words refs = map (λ w. w.now) refs

pub two : (refs : List (Bor (List ℕ))) (d : Bor (List ℕ)) → length refs ≡ 2 → (f : (a b : List ℕ) → Result Task Malformed) → counted 2 (words refs) (f (slice_index_or (words refs) 0 []) (slice_index_or (words refs) 1 [])) ≡ f (slice_index_or refs 0 d).now (slice_index_or refs 1 d).now
two [] d long f = absurd (omega arith)
two (a ∷ []) d long f = absurd (omega arith)
two (a ∷ b ∷ []) d long f = refl
two (a ∷ b ∷ x ∷ more) d long f = absurd (omega arith)

pub three : (refs : List (Bor (List ℕ))) (d : Bor (List ℕ)) → length refs ≡ 3 → (f : (a b c : List ℕ) → Result Task Malformed) → counted 3 (words refs) (f (slice_index_or (words refs) 0 []) (slice_index_or (words refs) 1 []) (slice_index_or (words refs) 2 [])) ≡ f (slice_index_or refs 0 d).now (slice_index_or refs 1 d).now (slice_index_or refs 2 d).now
three [] d long f = absurd (omega arith)
three (a ∷ []) d long f = absurd (omega arith)
three (a ∷ b ∷ []) d long f = absurd (omega arith)
three (a ∷ b ∷ c ∷ []) d long f = refl
three (a ∷ b ∷ c ∷ x ∷ more) d long f = absurd (omega arith)

pub four : (refs : List (Bor (List ℕ))) (d : Bor (List ℕ)) → length refs ≡ 4 → (f : (a b c e : List ℕ) → Result Task Malformed) → counted 4 (words refs) (f (slice_index_or (words refs) 0 []) (slice_index_or (words refs) 1 []) (slice_index_or (words refs) 2 []) (slice_index_or (words refs) 3 [])) ≡ f (slice_index_or refs 0 d).now (slice_index_or refs 1 d).now (slice_index_or refs 2 d).now (slice_index_or refs 3 d).now
four [] d long f = absurd (omega arith)
four (a ∷ []) d long f = absurd (omega arith)
four (a ∷ b ∷ []) d long f = absurd (omega arith)
four (a ∷ b ∷ c ∷ []) d long f = absurd (omega arith)
four (a ∷ b ∷ c ∷ e ∷ []) d long f = refl
four (a ∷ b ∷ c ∷ e ∷ x ∷ more) d long f = absurd (omega arith)
