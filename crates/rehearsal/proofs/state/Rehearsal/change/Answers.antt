use Rattle.std.proofs.Common.{◌≡◌, refl, ◌∙◌}
use Rattle.rehearsal.specs.Levels.{levels_of}
use Rattle.rehearsal.proofs.Turning.{changed}
use Rattle.rehearsal.proofs.state.Rehearsal.change.Goals as goal

pub returns : goal.returns
returns c =
    let leaf = rw c.in_ok-leaf.ensures.ok_part at c.new.ensures in
    let levels : c.in_ok-leaf.leaf.levels ≡ levels_of c.args.self.now.levels = leaf.0 ∙ c.count.ensures.value in
    let written = rw (levels, leaf.1) at c.in_ok-root.ensures in
    let numbers = rw (c.give.ensures, c.and.ensures, c.node.ensures, c.node-2.ensures, levels, leaf.1) at c.climb.ensures in
    changed c.args.place c.in_ok-root.root c.args.content c.args.self.now
    (record { heap = c.args.self.now.heap; levels = c.args.self.now.levels; last = c.in_ok-root.root; numbers = c.climb.new.self; bytes = c.write.new.out })
    written.0 refl refl numbers written.1
