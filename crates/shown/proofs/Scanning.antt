-- Scanning the bytes of proper records.
use Rattle.std.proofs.Common.{◌≤◌, ◌++◌, map, length, sym, ap, ◌∙◌, subst, arith}
use Rattle.change.specs.Coded.{coded, bytes_of}
use Rattle.index.specs.Noted.{Rows, scanned}
use Rattle.index.proofs.Scanning.{scanned-all}
use Rattle.shown.specs.Shown.{Shows}
use Rattle.shown.specs.Theorems.{Scans, ScannedShows}
use Rattle.shown.proofs.Noting.{bytes_encoded}

pub scans : Scans
scans decodes sealed levels most at rs rows few proper l =
    let e = bytes_encoded sealed levels rs in
    ap (λ bs. scanned levels most at bs rows) e ∙ scanned-all decodes levels most at (map (coded sealed levels) rs) rows few proper (subst (λ bs. length bs ≤ most) e l)

pub scanned-shows : ScannedShows
scanned-shows decodes sealed levels bytes rows rs t last few kept =
    let new = bytes_of sealed levels rs in
    subst (λ (x : Rows). Shows sealed levels (bytes ++ new) x t) (sym (scans decodes sealed levels (length new) (length bytes) rs rows few kept.proper (omega arith))) kept.shows
