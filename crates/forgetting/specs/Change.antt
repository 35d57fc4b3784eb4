-- ONE CHANGE: what it leaves, the records that it writes and the keys that it draws.
use Rattle.std.specs.Prelude.{ℕ, zero, suc, pred, ◌+◌, Bool, true, false, List, [], ◌∷◌, ◌++◌, Some, None, Option}
use Rattle.forgetting.specs.Secret.{Node, Sealed, Content}
use Rattle.forgetting.specs.Tree.{Tree, bare, leaf, node, even_of, odd_of, child, link, to_even}

-- A change of any set of places: nothing below here; a content put in, under a new key; what is here taken out; or a new key for this node, and changes on both sides.
pub data Edit (K C : Type 0) : Type 0 where
  same : Edit K C
  puts : (k : K) (c : C) → Edit K C
  takes : Edit K C
  fork : (k : K) (even odd : Edit K C) → Edit K C

-- The tree afterwards.
abbrev pub edited : {K C : Type 0} → Edit K C → Tree K C → Tree K C
edited same t = t
edited (puts k c) t = leaf k c
edited takes t = bare
edited (fork k a b) t = node k (edited a (even_of t)) (edited b (odd_of t))

-- The keys drawn.
abbrev pub drawn : {K C : Type 0} → Edit K C → List K
drawn same = []
drawn (puts k c) = k ∷ []
drawn takes = []
drawn (fork k a b) = k ∷ (drawn a ++ drawn b)

-- A record on the medium: something sealed, or that a place was taken out, with the number that the next key will have.
pub data Record (K C : Type 0) : Type 0 where
  sealing : (s : Sealed K C) → Record K C
  taking : (at : Node) (next : ℕ) → Record K C

-- What the records seal.
abbrev pub things : {K C : Type 0} → List (Record K C) → List (Sealed K C)
things [] = []
things (sealing s ∷ rs) = s ∷ things rs
things (taking at next ∷ rs) = things rs

abbrev pub sealings : {K C : Type 0} → List (Sealed K C) → List (Record K C)
sealings [] = []
sealings (s ∷ ss) = sealing s ∷ sealings ss

abbrev pub is_same : {K C : Type 0} → Edit K C → Bool
is_same same = true
is_same (puts k c) = false
is_same takes = false
is_same (fork k a b) = false

-- The changed side first; of two, the even one.
abbrev pub in_turn : {A : Type 0} → Bool → List A → List A → List A
in_turn true even odd = odd ++ even
in_turn false even odd = even ++ odd

-- The records, from the places up: next is the number that the next key will have.
abbrev pub records : {K C : Type 0} → (next : ℕ) → Node → Edit K C → Tree K C → List (Record K C)
records next at same t = []
records next at (puts k c) t = sealing (Content at 0 k c) ∷ []
records next at takes t = taking at next ∷ []
records next at (fork k a b) t =
    (records next (child at 0) a (even_of t) ++ records next (child at 1) b (odd_of t))
    ++ sealings (in_turn (is_same a) (link (child at 0) 0 k (edited a (even_of t))) (link (child at 1) 1 k (edited b (odd_of t))))

-- THE CHANGE OF ONE PLACE, d levels below the root: w is put in, or what is there is taken out. keys h: the new key of the node h levels above the place.
abbrev pub placed : {K C : Type 0} → Option C → K → Edit K C
placed None k = takes
placed (Some c) k = puts k c

abbrev pub towards : {K C : Type 0} → Bool → K → Edit K C → Edit K C
towards true k e = fork k e same
towards false k e = fork k same e

abbrev pub single : {K C : Type 0} → (w : Option C) (keys : ℕ → K) (d p : ℕ) → Edit K C
single w keys zero p = placed w (keys 0)
single w keys (suc d) p = towards (to_even d p) (keys (suc d)) (single w keys d p)

-- How many keys the change of one place draws.
abbrev pub draws : {C : Type 0} → Option C → (d : ℕ) → ℕ
draws None d = d
draws (Some c) d = d + 1

-- Keys are counted on from the last number, from the place up, and taken from a list in that order.
pub record Numbered : Type 0 where
  pub number : ℕ
  pub bytes : List ℕ

abbrev pub counted : {C : Type 0} → Option C → (last : ℕ) → (ℕ → List ℕ) → ℕ → Numbered
counted None last keys h = record { number = last + h; bytes = keys (pred h) }
counted (Some c) last keys h = record { number = last + 1 + h; bytes = keys h }
