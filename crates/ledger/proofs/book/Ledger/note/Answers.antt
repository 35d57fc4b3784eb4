use Rattle.std.proofs.Common.{◌≡◌, ℕ, ◌^◌, ◌<◌, Bool, List, [], ◌∷◌, ◌++◌, length, get_or, drop, Some, None, vec_items, Option, slice_set, sym, ap, ◌∙◌, subst, arith, ltb-true}
use Rattle.ledger.specs.declared.moves.Move.{Move}
use Rattle.ledger.specs.Book.{Book, looked, played, there}
use Rattle.ledger.proofs.Books.{looked-length}
use Rattle.ledger.proofs.Keeping.{sized, below, fields-played, front}
use Rattle.ledger.proofs.book.Ledger.note.Goals as goal
use Rattle.ledger.proofs.book.Ledger.note.Goals.{in-Put+in_ok-push-in-Put, in-PutCut+in_ok-push-in-PutCut, in-Out, in-OutCut, in-Look}

pub index_mut-requires : goal.index_mut-requires
index_mut-requires c =
    let self = c.args.self.now in
    let here = ltb-true c.in-Put.place (2 ^ self.levels) (ap (there self.levels) (sym c.in-Put.is) ∙ c.requires) in
    let size = sized self.levels (vec_items self.moves) self.placed (vec_items self.standing) self.stands in
    let len = self.standing.ok.0 in omega arith

pub index_mut-requires-in-Out : goal.index_mut-requires-in-Out
index_mut-requires-in-Out c =
    let self = c.args.self.now in
    let here = ltb-true c.in-Out.place (2 ^ self.levels) (ap (there self.levels) (sym c.in-Out.is) ∙ c.requires) in
    let size = sized self.levels (vec_items self.moves) self.placed (vec_items self.standing) self.stands in
    let len = self.standing.ok.0 in omega arith

pub see-requires : goal.see-requires
see-requires c =
    let self = c.args.self.now in
    subst (λ (os : List (Option ℕ)). (p k : ℕ) → p < length os → get_or os p None ≡ Some k → k < length c.deref_mut.result.now) (sym c.deref.ensures.value)
    (subst (λ (bs : List Bool). (p k : ℕ) → p < length (vec_items self.standing) → get_or (vec_items self.standing) p None ≡ Some k → k < length bs) (sym c.deref_mut.ensures.value)
    (below self.levels (vec_items self.moves) self.placed (vec_items self.standing) (vec_items self.seen) self.stands self.saw))

pub invariant_of-self-2 : goal.invariant_of-self-2
invariant_of-self-2 c =
    let self = c.args.self.now in
    let b : Book = record { standing = vec_items self.standing; seen = vec_items self.seen } in
    let plays = λ (m : Move) (e : c.args.play ≡ m). ap (λ m. played m b) (sym e) in
    let more = λ (p : c.match-play.play ≡ c.args.play). fields-played self.levels (vec_items self.moves) self.placed (vec_items self.standing) (vec_items self.seen) self.stands self.saw (vec_items c.push_reserved.new.self) c.args.play c.requires
    (c.push_reserved.ensures.items ∙ ap (λ (x : List Move). x ++ c.match-play.play ∷ []) c.reserve.ensures.items ∙ ap (λ (m : Move). vec_items self.moves ++ m ∷ []) p)
    (vec_items c.match-play.self.1.1.0) (vec_items c.match-play.self.1.1.1.0) in
    elim c.match-play.branch [
      | in-Put+in_ok-push-in-Put w ↦
          let p = plays _ w.in-Put.is in
          let count : w.len-number.result ≡ length (vec_items self.seen) = w.len-number.ensures ∙ self.seen.ok.0 in
          let f = more (w.play-is ∙ sym w.in-Put.is)
          (ap (λ x. vec_items x.1.1.0) w.self-is ∙ ap (λ (n : ℕ). slice_set (vec_items self.standing) w.in-Put.place (Some n)) count ∙ ap (λ (x : Book). x.standing) p)
          (ap (λ x. vec_items x.1.1.1.0) w.self-is ∙ w.in_ok-push-in-Put.ensures.items ∙ ap (λ (x : Book). x.seen) p) in
          record { few = self.few; placed = f.0; stands = f.1; saw = f.2 }
      | in-PutCut+in_ok-push-in-PutCut w ↦
          let p = plays _ w.in-PutCut.is in
          let f = more w.play-is (ap (λ x. vec_items x.1.1.0) w.self-is ∙ ap (λ (x : Book). x.standing) p) (ap (λ x. vec_items x.1.1.1.0) w.self-is ∙ w.in_ok-push-in-PutCut.ensures.items ∙ ap (λ (x : Book). x.seen) p) in
          record { few = self.few; placed = f.0; stands = f.1; saw = f.2 }
      | in-Out w ↦
          let p = plays _ w.in-Out.is in
          let f = more (w.play-is ∙ sym w.in-Out.is) (ap (λ x. vec_items x.1.1.0) w.self-is ∙ ap (λ (x : Book). x.standing) p) (ap (λ x. vec_items x.1.1.1.0) w.self-is ∙ ap (λ (x : Book). x.seen) p) in
          record { few = self.few; placed = f.0; stands = f.1; saw = f.2 }
      | in-OutCut w ↦
          let p = plays _ w.in-OutCut.is in
          let f = more w.play-is (ap (λ x. vec_items x.1.1.0) w.self-is ∙ ap (λ (x : Book). x.standing) p) (ap (λ x. vec_items x.1.1.1.0) w.self-is ∙ ap (λ (x : Book). x.seen) p) in
          record { few = self.few; placed = f.0; stands = f.1; saw = f.2 }
      | in-Look w ↦
          let p = plays _ w.in-Look.is in
          let saw : w.see.new.seen ≡ looked (vec_items self.standing) (vec_items self.seen) =
          w.see.ensures ∙ ap (λ (x : List (Option ℕ)). looked x w.deref_mut.result.now) w.deref.ensures.value ∙ ap (λ (x : List Bool). looked (vec_items self.standing) x) w.deref_mut.ensures.value in
          let as_long : length w.see.new.seen ≡ self.seen.len = ap length saw ∙ looked-length (vec_items self.standing) (vec_items self.seen) ∙ sym self.seen.ok.0 in
          let f = more w.play-is (ap (λ x. vec_items x.1.1.0) w.self-is ∙ ap (λ (x : Book). x.standing) p)
          (ap (λ x. vec_items x.1.1.1.0) w.self-is ∙ front self.seen.len w.see.new.seen (drop (length w.see.new.seen) (vec_items self.seen)) as_long ∙ saw ∙ ap (λ (x : Book). x.seen) p) in
          record { few = self.few; placed = f.0; stands = f.1; saw = f.2 }
    ]
