-- The records of a change that is made with the keys after the last number and with the siblings along the path.
use Rattle.std.specs.Borrow.{Bor}
use Rattle.std.proofs.Common.{◌≡◌, ℕ, ◌+◌, ◌/◌, ◌^◌, List, [], ◌∷◌, ◌++◌, map, get_or, Some, None, Ok, Err, Option, Result, IfOk, refl, ap, ◌∙◌, pow-suc, add-one}
use mathlib.Core.List.{map-append}
use native.Mathlib.Nat.{div-div-eq-div-mul}
use Rattle.cipher.specs.Sealed.{transparent}
use Rattle.sealing.specs.declared.key.Key.{Key}
use Rattle.forgetting.specs.Tree.{Tree}
use Rattle.forgetting.specs.Change.{records, single, draws, counted, Numbered}
use Rattle.forgetting.specs.History.{root}
use Rattle.tree.specs.Nodes.{sibling_of}
use Rattle.change.specs.declared.node.NodeKey.{NodeKey}
use Rattle.change.specs.declared.failure.Failure.{Failure}
use Rattle.change.specs.Coded.{bytes_of}
use Rattle.change.specs.Nodes.{key_in, bytes_in, content_in}
use Rattle.change.specs.Outcome.{Siblings, Writes}
use Rattle.rehearsal.specs.Keys.{keys_after}
use Rattle.rehearsal.specs.Siblings.{keyed, siblings_of}
use Rattle.rehearsal.specs.Changes.{Recorded}

-- The node one level up.
pub half_more : (start h node up : ℕ) → node ≡ start / 2 ^ h → up ≡ node / 2 → up ≡ start / 2 ^ (h + 1)
half_more start h node up e u = u ∙ rw (e, add-one h, pow-suc 2 h) (div-div-eq-div-mul start (2 ^ h) 2)

pub no_sibling : (start : ℕ) (numbers : List (Option ℕ)) (nodes : List (Option NodeKey)) → nodes ≡ [] → map key_in nodes ≡ siblings_of start numbers 0
unfolding siblings_of
no_sibling start numbers nodes e = ap (map key_in) e

pub one_sibling : (start h : ℕ) (numbers : List (Option ℕ)) (nodes : List (Option NodeKey)) (node : Option NodeKey) → map key_in nodes ≡ siblings_of start numbers h → key_in node ≡ keyed (get_or numbers (sibling_of (start / 2 ^ h)) None)
    → map key_in (nodes ++ node ∷ []) ≡ siblings_of start numbers (h + 1)
unfolding siblings_of
one_sibling start h numbers nodes one e d = rw (map-append, add-one, e, d)

pub recorded : (levels place last : ℕ) (w : Option (List ℕ)) (keys : List Key) (nodes : List (Option NodeKey)) (numbers : List (Option ℕ)) (before after : List ℕ)
    → map (λ (k : Key). k.bytes) keys ≡ keys_after last (draws w levels) → map key_in nodes ≡ siblings_of (2 ^ levels + place) numbers levels → before ≡ []
    → ((t : Tree Numbered (List ℕ)) → Siblings levels place t nodes → after ≡ before ++ bytes_of transparent levels (records (last + 1) (root levels) (single w (counted w last (bytes_in keys)) levels place) t))
    → Recorded levels place last w numbers after
recorded levels place last w keys nodes numbers before after drawn siblings none writes t same =
    let told : List ℕ → List (List ℕ) → List ℕ = λ front ks. front ++ bytes_of transparent levels (records (last + 1) (root levels) (single w (counted w last (λ j. get_or ks j [])) levels place) t) in
    let at : after ≡ told before (map (λ (k : Key). k.bytes) keys) = writes t (λ h less. ap (λ (ns : List (Option Numbered)). get_or ns h None) siblings ∙ same h less) in
    at ∙ ap (λ (front : List ℕ). told front (map (λ (k : Key). k.bytes) keys)) none ∙ ap (told []) drawn

-- What a change that was made with them writes.
pub if_recorded : (levels place last : ℕ) (w : Option (List ℕ)) (keys : List Key) (nodes : List (Option NodeKey)) (numbers : List (Option ℕ)) (before after : List ℕ) (result : Result ℕ Failure)
    → map (λ (k : Key). k.bytes) keys ≡ keys_after last (draws w levels) → map key_in nodes ≡ siblings_of (2 ^ levels + place) numbers levels → before ≡ []
    → Writes transparent levels place w keys last nodes before result after
    → IfOk result (λ root. (root ≡ last + draws w levels) × Recorded levels place last w numbers after)
if_recorded levels place last w keys nodes numbers before after (Ok root) drawn siblings none writes =
    (writes.1, recorded levels place last w keys nodes numbers before after drawn siblings none writes.2)
if_recorded levels place last w keys nodes numbers before after (Err why) drawn siblings none writes = tt

-- As many keys for a content that is lent as for its bytes.
pub draws_lent : (w : Option (Bor (List ℕ))) (levels : ℕ) → draws w levels ≡ draws (content_in w) levels
draws_lent None levels = refl
draws_lent (Some content) levels = refl
