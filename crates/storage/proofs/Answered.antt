-- What is answered is what should be.
use Rattle.std.proofs.Common.{◌≡◌, ℕ, ◌^◌, ◌<◌, ◌≤◌, true, false, cond, leb, List, length, take, drop, IfOk, Ok, Err, Option, Result, sym, refl, ap, ◌∙◌, subst, inl, inr, arith, length-take-le}
use Rattle.std.proofs.lemmas.Bool.{lt-ltb, le-leb, lt-leb}
use Rattle.tree.specs.declared.answer.Refusal.TheVariants.{NoSuchPlace, Nothing, DoesNotOpen, Old, Damaged, FewKeys, NumbersSpent}
use Rattle.forgetting.specs.Tree.{Tree, place_in, content_of}
use Rattle.forgetting.specs.Change.{Numbered}
use Rattle.sealing.specs.declared.key.Key.{Key}
use Rattle.change.specs.Coded.{Cipher}
use Rattle.descent.specs.Path.{Fails, Ends}
use Rattle.descent.specs.declared.failure.Failure.{Failure}
use Rattle.descent.specs.declared.failure.Failure.TheVariants.{Refused, Memory, Device, Stopped}
use Rattle.storage.specs.Answers.{Answer, content, refused, failure_of, reading_of, held_answer, read_answer}
use Rattle.storage.specs.Reads.{Reads, CopiesOut, Fills, Answers}
use Rattle.storage.specs.Prepares.{Prepares}

pub fills : (read : Result ℕ Failure) (room before : List ℕ) (r : Result ℕ Failure) (after : List ℕ) → CopiesOut read room before r after → Fills before r after
fills (Ok n) room before (Ok m) after (e, l, f, d) = subst (λ k. (k ≤ length before) × (drop k after ≡ drop k before)) (sym e) (l, d)
fills (Ok n) room before (Err why) after (e, l, s) = s
fills (Err why) room before (Ok m) after o = absurd o
fills (Err why) room before (Err other) after (e, s) = s

-- For a place that there is.
there : (levels place room : ℕ) (t : Tree Numbered (List ℕ)) → place < 2 ^ levels → read_answer levels place room t ≡ held_answer room (content_of (place_in levels place t))
there levels place room t l = ap (λ b. cond b (held_answer room (content_of (place_in levels place t))) (refused 1)) (lt-ltb place (2 ^ levels) l)

ended : (room : ℕ) (why : Failure) (holds : Option (List ℕ)) → Ends why holds → Answers (failure_of why) (held_answer room holds)
ended room (Refused Nothing) holds e = inr (sym (ap (held_answer room) e))
ended room (Refused DoesNotOpen) holds e = absurd e
ended room (Refused NoSuchPlace) holds e = absurd e
ended room (Refused Old) holds e = absurd e
ended room (Refused Damaged) holds e = absurd e
ended room (Refused FewKeys) holds e = absurd e
ended room (Refused NumbersSpent) holds e = absurd e
ended room Device holds e = inl refl
ended room Memory holds e = absurd e
ended room Stopped holds e = absurd e

held_answers : (levels place : ℕ) (room before : List ℕ) (read : Result ℕ Failure) (r : Result ℕ Failure) (after : List ℕ) (t : Tree Numbered (List ℕ)) → IfOk read (λ n. n ≤ 4096) → length room ≡ 4112
    → CopiesOut read room before r after → Reads levels place read room t → Answers (reading_of r after) (held_answer (length before) (content_of (place_in levels place t)))
held_answers levels place room before (Ok n) (Ok m) after t few long (e, l, f, d) is =
    let n-long : length (take n room) ≡ n = length-take-le n room (omega arith) in
    let fits : leb (length (take n room)) (length before) ≡ true = le-leb (length (take n room)) (length before) (omega arith) in
    inr (ap (λ k. content (take k after)) e ∙ ap content f ∙ sym (ap (held_answer (length before)) is ∙ ap (λ b. cond b (content (take n room)) (refused 1)) fits))
held_answers levels place room before (Ok n) (Err why) after t few long (e, l, s) is =
    let n-long : length (take n room) ≡ n = length-take-le n room (omega arith) in
    let short : leb (length (take n room)) (length before) ≡ false = lt-leb (length (take n room)) (length before) (omega arith) in
    inr (ap failure_of e ∙ sym (ap (held_answer (length before)) is ∙ ap (λ b. cond b (content (take n room)) (refused 1)) short))
held_answers levels place room before (Err why) (Ok m) after t few long o is = absurd o
held_answers levels place room before (Err why) (Err other) after t few long (e, s) is =
    let P : Failure → Type 0 = λ w. Answers (failure_of w) (held_answer (length before) (content_of (place_in levels place t))) in
    subst P (sym e) (ended (length before) why (content_of (place_in levels place t)) is)

pub answers : (levels place : ℕ) (room before : List ℕ) (read : Result ℕ Failure) (r : Result ℕ Failure) (after : List ℕ) (t : Tree Numbered (List ℕ)) → place < 2 ^ levels → IfOk read (λ n. n ≤ 4096) → length room ≡ 4112
    → CopiesOut read room before r after → Reads levels place read room t → Answers (reading_of r after) (read_answer levels place (length before) t)
answers levels place room before read r after t lp few long o is =
    let P : Answer → Type 0 = λ a. Answers (reading_of r after) a in
    subst P (sym (there levels place (length before) t lp)) (held_answers levels place room before read r after t few long o is)

-- What went wrong on the way down is what went wrong with the change.
pub fails_prepares : (sealed : Cipher) (levels place last : ℕ) (w : Option (List ℕ)) (keys : List Key) (why : Failure) (written : List ℕ) (t : Tree Numbered (List ℕ)) → Fails why → Prepares sealed levels place last w keys (Err why) written t
fails_prepares sealed levels place last w keys (Refused why) written t f = absurd f
fails_prepares sealed levels place last w keys Memory written t f = absurd f
fails_prepares sealed levels place last w keys Device written t f = tt
fails_prepares sealed levels place last w keys Stopped written t f = absurd f
