-- The room is as long as it was throughout, and the root's key is the one that the way down begins with.
use Rattle.std.proofs.Common.{◌≡◌, ℕ, List, length, take, replicate, sym, refl, ap, ◌∙◌, subst, arith, take_all}
use lib.ListN.{length-replicate}
use Rattle.std.specs.Vec.{with_items}
use Rattle.std.proofs.lemmas.List.{with_items_is}
use Rattle.index.specs.Noted.{rows_of}
use Rattle.descent.specs.Path.{Showing}
use Rattle.storage.specs.Reads.{CopiesOut}
use Rattle.storage.proofs.Answered.{fills, answers}
use Rattle.storage.proofs.work.Work.read.Goals as goal

pub invariant_of-self : goal.invariant_of-self
invariant_of-self g c =
    let v = c.args.self.now.room in
    let long : v.len ≡ 4112 = v.ok.0 ∙ ap length c.args.self.now.empty ∙ length-replicate {A = ℕ} 4112 0 in
    let W = c.clear_opened.new.room in
    let lW : length W ≡ v.len = c.clear_opened.auto.room ∙ c.deref_mut-2.ensures.len in
    let lD : length c.deref_mut-2.result.now ≡ 4112 = c.deref_mut-2.ensures.len ∙ long in
    record { wiped = c.clear_opened.ensures.key; blank = c.clear_opened.ensures.part; empty = with_items_is (with_items v c.read_place-read.new.room) W lW ∙ c.clear_opened.ensures.room ∙ ap (λ n. replicate n 0) lD; keyless = c.args.self.now.keyless }

pub returns : goal.returns
returns g c =
    let v = c.args.self.now.room in
    let long : v.len ≡ 4112 = v.ok.0 ∙ ap length c.args.self.now.empty ∙ length-replicate {A = ℕ} 4112 0 in
    let A = c.read_place-read.new.room in
    let lA : length A ≡ v.len = c.read_place-read.auto.room ∙ c.deref_mut.ensures.len in
    let is : c.deref.result.now ≡ A = c.deref.ensures.value ∙ with_items_is v A lA in
    let P : List ℕ → Type 0 = λ room. CopiesOut c.read_place-read.result room c.args.buffer.now c.copy_out-reading.result c.copy_out-reading.new.buffer in
    let out = subst P is c.copy_out-reading.ensures in
    let key : c.load.new.self.bytes ≡ c.args.root.now.bytes = c.load.ensures ∙ ap (take 32) c.as_bytes.ensures ∙ take_all 32 c.args.root.now.bytes (omega arith) in
    record {
      same = c.read_place-read.ensures.same;
      wide = refl;
      buffer = fills c.read_place-read.result A c.args.buffer.now c.copy_out-reading.result c.copy_out-reading.new.buffer out;
      answer = λ first last t f s.
          let Q : List ℕ → Type 0 = λ root. Showing g.S.Sealing.sealed c.args.leaf.levels last first (g.M.Medium.log c.args.source.now.medium) (rows_of c.args.index.now) root t in
          answers c.args.leaf.levels c.args.leaf.place A c.args.buffer.now c.read_place-read.result c.copy_out-reading.result c.copy_out-reading.new.buffer t c.args.leaf.there c.read_place-read.ensures.fits (lA ∙ long) out
          (c.read_place-read.ensures.reads first last t f (subst Q (sym key) s));
    }
