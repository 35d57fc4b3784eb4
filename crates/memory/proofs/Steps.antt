-- What each operation keeps of a medium in memory.
use Rattle.std.proofs.Common.{◌≡◌, ℕ, ◌+◌, ◌-◌, ◌<◌, ◌≤◌, min, Bool, true, false, ◌&&◌, leb, ◌⊎◌, List, [], ◌∷◌, ◌++◌, length, take, drop, sym, refl, ap, ◌∙◌, subst, inl, inr, ⊎_elim, arith, length-append}
use lib.Seq.{take-append-add, take-length}
use Rattle.std.proofs.lemmas.List.{take_all, take-take, take-append-le, length-take, length-take-le}
use Rattle.std.proofs.lemmas.Bool.{or_left, or_right, or_cases, and_parts, and_from, leb-true, le-leb, cases_lt, both_ways}
use Rattle.std.proofs.lemmas.Slice.Eq.{bytes_eq-Decides}
use Rattle.std.specs.Str.{bytes_eq}
use Rattle.devices.specs.Events.{Event, appended, synced, cut, got, held, Faithful, Left}
use Rattle.memory.specs.Stops.{is_left, is_faithful, Whole, Lasting}

abbrev same : (a b : List ℕ) → a ≡ b → bytes_eq a b ≡ true
same a b = (bytes_eq-Decides a b).1

pub left_of : (log : List Event) (bytes : List ℕ) → is_left log bytes ≡ true → Left [] log bytes
unfolding is_left Left
left_of [] bytes e = (bytes_eq-Decides bytes []).0 e
left_of (synced ∷ log) bytes e = (bytes_eq-Decides bytes (held [] log)).0 e
left_of (got offset more ∷ log) bytes e = left_of log bytes e
left_of (cut n ∷ log) bytes e =
    ⊎_elim (λ p. inl (left_of log bytes p)) (λ p. inr ((bytes_eq-Decides bytes (take n (held [] log))).0 p)) (or_cases (is_left log bytes) (bytes_eq bytes (take n (held [] log))) e)
left_of (appended more ∷ log) bytes e =
    let n = length bytes - length (held [] log) in
    ⊎_elim (λ p. inl (left_of log bytes p)) (λ p. inr (n, (bytes_eq-Decides bytes (held [] log ++ take n more)).0 p)) (or_cases (is_left log bytes) (bytes_eq bytes (held [] log ++ take n more)) e)

pub faithful_of : (log : List Event) → is_faithful log ≡ true → Faithful [] log
unfolding is_faithful Faithful
faithful_of [] e = tt
faithful_of (appended bytes ∷ log) e = faithful_of log e
faithful_of (synced ∷ log) e = faithful_of log e
faithful_of (cut n ∷ log) e = faithful_of log e
faithful_of (got offset bytes ∷ log) e =
    let here = bytes_eq (take (length bytes) (drop offset (held [] log))) bytes in
    let within = leb (offset + length bytes) (length (held [] log)) in
    let p = and_parts (here && within) (is_faithful log) e in
    let q = and_parts here within p.0 in
    (((bytes_eq-Decides (take (length bytes) (drop offset (held [] log))) bytes).0 q.0, leb-true (offset + length bytes) (length (held [] log)) q.1), faithful_of log p.1)

abbrev pub Kept : (on : Bool) (lasting : ℕ) (bytes : List ℕ) → List Event → Type 0
Kept on lasting bytes log = (is_faithful log ≡ true) × (Whole on bytes log × (Lasting lasting bytes log × Unit {0}))

pub begins : (b : List ℕ) (n : ℕ) (log : List Event) → log ≡ synced ∷ (appended b ∷ []) → n ≡ length b → Kept true n b log
unfolding is_left is_faithful held
begins b n log e h =
    subst (λ (l : List Event). Kept true n b l) (sym e)
    (refl, ((λ _. refl), ((λ k. same (take (n + k) b) b (take_all (n + k) b (omega arith))), tt)))

-- The front of a front.
front : (i j : ℕ) (l : List ℕ) → take (length (take i (take j l))) l ≡ take i (take j l)
front i j l =
    ⊎_elim
    (λ (h : i < j). let e = take-take i j l (omega arith) in subst (λ (x : List ℕ). take (length x) l ≡ x) (sym e) (once i))
    (λ (h : j ≤ i). let e = take_all i (take j l) (simp length-take (omega arith)) in subst (λ (x : List ℕ). take (length x) l ≡ x) (sym e) (once j))
    (cases_lt i j)
  where
    once : (m : ℕ) → take (length (take m l)) l ≡ take m l
    once m =
        ⊎_elim
        (λ (h : m < length l). ap (λ (k : ℕ). take k l) (length-take-le m l (omega arith)))
        (λ (h : length l ≤ m). let e = take_all m l h in ap (λ (x : List ℕ). take (length x) l) e ∙ (take-length l ∙ sym e))
        (cases_lt m (length l))

-- A first part of what is appended comes to stand.
lasts : (n j : ℕ) (b more : List ℕ) (log : List Event) → held [] log ≡ b → Lasting n b log → Lasting n (b ++ take j more) (appended more ∷ log)
unfolding is_left
lasts n j b more log e old k =
    ⊎_elim
    (λ (h : length b < n + k).
    let i = n + k - length b in
    let y = take i (take j more) in
    let x = take (n + k) (b ++ take j more) in
    let f : x ≡ b ++ y = subst (λ (m : ℕ). take m (b ++ take j more) ≡ b ++ y) (let z : length b + i ≡ n + k = omega arith in z) (take-append-add b (take j more) i) in
    let c : length x - length (held [] log) ≡ length y = rw (f, e, length-append) (omega arith) in
    or_right (is_left log x) _ (same x _ (f ∙ (sym (ap (λ (w : List ℕ). b ++ w) (front i j more)) ∙ (ap (λ (w : List ℕ). w ++ take (length y) more) (sym e) ∙ ap (λ (m : ℕ). held [] log ++ take m more) (sym c))))))
    (λ (h : n + k ≤ length b).
    let f = take-append-le (n + k) b (take j more) h in
    or_left (is_left log (take (n + k) (b ++ take j more))) _ (ap (is_left log) f ∙ old k))
    (cases_lt (length b) (n + k))

-- Nothing of what is appended or cut comes to stand.
pub passed : (n : ℕ) (b more : List ℕ) (log : List Event) → Lasting n b log → Lasting n b (appended more ∷ log)
unfolding is_left
passed n b more log old k = or_left (is_left log (take (n + k) b)) _ (old k)

pub adds : (on on' : Bool) (n j : ℕ) (b b' more : List ℕ) (log log' : List Event) → Kept on n b log → log' ≡ appended more ∷ log → (b' ≡ b) ⊎ ((on ≡ true) × (b' ≡ b ++ take j more)) → (on' ≡ true → (on ≡ true) × (b' ≡ b ++ more)) → Kept on' n b' log'
unfolding is_faithful held
adds on on' n j b b' more log log' kept e way whole =
    subst (λ (l : List Event). Kept on' n b' l) (sym e) (
      kept.0,
      (
        (λ h. ap (λ (w : List ℕ). w ++ more) (kept.1.0 (whole h).0) ∙ sym (whole h).1),
        (
          ⊎_elim (λ q. subst (λ (w : List ℕ). Lasting n w (appended more ∷ log)) (sym q) (passed n b more log kept.1.1.0)) (λ q. subst (λ (w : List ℕ). Lasting n w (appended more ∷ log)) (sym q.1) (lasts n j b more log (kept.1.0 q.0) kept.1.1.0)) way,
          tt,
        ),
      ),
    )

pub syncs : (on on' : Bool) (n m : ℕ) (b : List ℕ) (log log' : List Event) → Kept on n b log → log' ≡ synced ∷ log → on ≡ true → m ≡ length b → Kept on' m b log'
unfolding is_faithful held is_left
syncs on on' n m b log log' kept e h long =
    subst (λ (l : List Event). Kept on' m b l) (sym e)
    (kept.0, ((λ _. kept.1.0 h), ((λ k. same (take (m + k) b) (held [] log) (take_all (m + k) b (omega arith) ∙ sym (kept.1.0 h))), tt)))

pub cuts : (on on' : Bool) (n m at : ℕ) (b b' : List ℕ) (log log' : List Event) → Kept on n b log → log' ≡ cut at ∷ log → on ≡ true → b' ≡ take at b → m ≡ min n at → Kept on' m b' log'
unfolding is_faithful held is_left
cuts on on' n m at b b' log log' kept e h f g =
    subst (λ (l : List Event). Kept on' m b' l) (sym e) (
      kept.0,
      (
        (λ _. ap (take at) (kept.1.0 h) ∙ sym f),
        (
          (λ k.
              let x = take (m + k) b' in
              ⊎_elim
              (λ (l : m + k < at). or_left (is_left log x) _ (ap (is_left log) (ap (take (m + k)) f ∙ (take-take (m + k) at b (omega arith) ∙ ap (λ (i : ℕ). take (i + k) b) (let z : m ≡ n = omega arith in z))) ∙ kept.1.1.0 k))
              (λ (l : at ≤ m + k). or_right (is_left log x) _ (same x (take at (held [] log)) (ap (take (m + k)) f ∙ (take_all (m + k) (take at b) (simp length-take (omega arith)) ∙ ap (take at) (sym (kept.1.0 h))))))
              (cases_lt (m + k) at)),
          tt,
        ),
      ),
    )

pub cuts_not : (on on' : Bool) (n at : ℕ) (b : List ℕ) (log log' : List Event) → Kept on n b log → log' ≡ cut at ∷ log → on' ≡ false → Kept on' n b log'
unfolding is_faithful is_left
cuts_not on on' n at b log log' kept e h =
    subst (λ (l : List Event). Kept on' n b l) (sym e)
    (kept.0, ((λ t. absurd (both_ways on' h t)), ((λ k. or_left (is_left log (take (n + k) b)) _ (kept.1.1.0 k)), tt)))

pub goes_off : (on on' : Bool) (n : ℕ) (b : List ℕ) (log : List Event) → Kept on n b log → on' ≡ false → Kept on' n b log
goes_off on on' n b log kept h = (kept.0, ((λ t. absurd (both_ways on' h t)), (kept.1.1.0, tt)))

pub gets : (on : Bool) (n offset : ℕ) (b x : List ℕ) (log log' : List Event) → Kept on n b log → log' ≡ got offset x ∷ log → on ≡ true → take (length x) (drop offset b) ≡ x → offset + length x ≤ length b → Kept on n b log'
unfolding is_faithful held is_left
gets on n offset b x log log' kept e h stands within =
    let w = kept.1.0 h in
    subst (λ (l : List Event). Kept on n b l) (sym e) (
      and_from _ (is_faithful log) (and_from _ _ (same (take (length x) (drop offset (held [] log))) x (ap (λ (l : List ℕ). take (length x) (drop offset l)) w ∙ stands)) (le-leb (offset + length x) (length (held [] log)) (subst (λ (l : List ℕ). offset + length x ≤ length l) (sym w) within))) kept.0,
      (kept.1.0, (kept.1.1.0, tt)),
    )
