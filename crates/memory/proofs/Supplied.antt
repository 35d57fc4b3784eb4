-- What an operation comes to with the power that it finds.
use Rattle.std.proofs.Common.{◌≡◌, ℕ, true, false, ◌⊎◌, List, ◌++◌, length, take, refl, ap, subst, ◌∙◌, inl, inr, append-nil, arith}
use Rattle.std.proofs.lemmas.List.{take_all}
use Rattle.std.proofs.lemmas.Bool.{both_ways}
use Rattle.memory.specs.Supplies.{Supplies, Nearer, is_on, written}
use Rattle.memory.specs.declared.power.Power.{Power}
use Rattle.memory.specs.declared.power.Power.TheVariants.{On, Off}
use Rattle.memory.specs.declared.power.Supply.{Supply}
use Rattle.memory.specs.declared.power.Supply.TheVariants.{Full, Part, Gone}

was_on : (p q : Power) → Nearer p q → is_on p ≡ true
was_on (On stop) q h = refl
was_on Off q h = absurd h

pub full_on : (s : Supply) (p q : Power) → Supplies s p q → s ≡ Full → is_on p ≡ true
full_on s p q h e = was_on p q (subst (λ (s : Supply). Supplies s p q) e h)

pub supplied : (s : Supply) (p q : Power) (n : ℕ) (b b' more : List ℕ) → Supplies s p q → n ≡ written s (length more) → b' ≡ b ++ take n more → ((b' ≡ b) ⊎ ((is_on p ≡ true) × (b' ≡ b ++ take n more))) × (is_on q ≡ true → (is_on p ≡ true) × (b' ≡ b ++ more))
supplied Full p q n b b' more h e f =
    (inr (was_on p q h, f), λ _. (was_on p q h, f ∙ ap (λ (w : List ℕ). b ++ w) (take_all n more (omega arith))))
supplied (Part k) p q n b b' more h e f = (inr (ap is_on h.0, f), λ t. absurd (both_ways (is_on q) (ap is_on h.1) t))
supplied Gone p q n b b' more h e f =
    (inl (f ∙ (ap (λ (m : ℕ). b ++ take m more) e ∙ append-nil b)), λ t. absurd (both_ways (is_on q) (ap is_on h.1) t))

pub goes_out : (s : Supply) (p q : Power) → Supplies s p q → (s ≡ Full → ⊥) → is_on q ≡ false
goes_out Full p q h ne = absurd (ne refl)
goes_out (Part k) p q h ne = ap is_on h.1
goes_out Gone p q h ne = ap is_on h.1
