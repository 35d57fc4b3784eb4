-- The root's key is the one that the way down begins with; all that was worked with is cleared, and as long as it was.
use Rattle.std.proofs.Common.{◌≡◌, ℕ, List, length, take, replicate, is_some, sym, refl, ap, ◌∙◌, subst, arith, take_all}
use lib.ListN.{length-replicate}
use Rattle.std.specs.Vec.{with_items}
use Rattle.std.proofs.lemmas.List.{with_items_is}
use Rattle.change.specs.Nodes.{sibling_in}
use Rattle.index.specs.Noted.{rows_of}
use Rattle.descent.specs.Path.{Showing}
use Rattle.storage.proofs.work.Work.prepare.Goals as goal

pub invariant_of-self : goal.invariant_of-self
invariant_of-self g c =
    let v = c.args.self.now.room in
    let long : v.len ≡ 4112 = v.ok.0 ∙ ap length c.args.self.now.empty ∙ length-replicate {A = ℕ} 4112 0 in
    let W = c.clear_opened.new.room in
    let lW : length W ≡ v.len = c.clear_opened.auto.room ∙ c.deref_mut-3.ensures.len in
    let lD : length c.deref_mut-3.result.now ≡ 4112 = c.deref_mut-3.ensures.len ∙ long in
    let room = with_items_is (with_items v c.collect_and_write-written.new.room) W lW in
    let x = c.args.self.now.siblings in
    let N = c.clear_all.new.nodes in
    let lN : length N ≡ x.len = c.clear_all.auto.nodes ∙ c.deref_mut-4.ensures.len in
    let beside = with_items_is (with_items x c.collect_and_write-written.new.siblings) N lN in
    record { wiped = c.clear_opened.ensures.key; blank = c.clear_opened.ensures.part; empty = room ∙ c.clear_opened.ensures.room ∙ ap (λ n. replicate n 0) lD; keyless = λ h. ap (λ ns. is_some (sibling_in ns h)) beside ∙ c.clear_all.ensures h }

pub returns : goal.returns
returns g c =
    let root : c.load.new.self.bytes ≡ c.args.root.now.bytes = c.load.ensures ∙ ap (take 32) c.as_bytes.ensures ∙ take_all 32 c.args.root.now.bytes (omega arith) in
    let w = c.collect_and_write-written.ensures in
    record {
      wide = refl;
      same = w.same;
      decides = w.decides;
      prepares = λ first last t f s.
          let Q : List ℕ → Type 0 = λ k. Showing g.S.Sealing.sealed c.args.leaf.levels last first (g.M.Medium.log c.args.source.now.medium) (rows_of c.args.index.now) k t in
          w.prepares first last t f (subst Q (sym root) s);
    }
