-- The record that an entry says, as its text and row say it: the same values. Assumes nothing.
use Prim.Native.Nat.{ℕ}
use mathlib.Core.Bool.{true, false}
use mathlib.Core.List.{List, ◌∷◌}
use mathlib.Core.Option.{some}
use mathlib.Core.Path.{◌≡◌, sym, ap, ◌∙◌, subst}
use Rattle.text.specs.declared.character_set.CharacterSet.{CharacterSet}
use Rattle.frame.specs.Frames.{part}
use Rattle.standing.specs.declared.Standing.{Standing}
use Rattle.draft.specs.Values.{Values, layout_of, values_of_body}
use Rattle.set_out.specs.SetOut.{Onward, ReadyOne}
use Rattle.salvage_model.specs.Kept.{control_values}
use Rattle.salvage_next.specs.declared.Entry.{Entry}
use Rattle.salvage_entry.specs.declared.Pen.{Pen}
use Rattle.salvage_entry.specs.Entered.{Entered, Entering, EnteredAs}
use Rattle.salvage_passes.specs.Says.{Says}

module _ {set : CharacterSet} {file : List ℕ} {e : Entry} {v : Values} (says : Says set file e v) {body : List ℕ}
    (stands : body ≡ part e.start e.size file) {u : Values} where
  pub said-kept : e.kept ≡ true → u ≡ values_of_body set body → v ≡ u
  said-kept is row = says.kept is ∙ sym (row ∙ ap (values_of_body set) stands)

  pub said-control : e.kept ≡ false → u ≡ control_values set (layout_of e.kind) (some body) → v ≡ u
  said-control is row =
      (says.control is).1 ∙ sym (row ∙ ap (λ (b : List ℕ). control_values set (layout_of e.kind) (some b)) stands)

module _ {u v : Values} (same : v ≡ u) {addenda : ℕ} {sheet : List ℕ} where
  pub entering-as : {pen : Pen} → Entering v addenda sheet pen → Entering u addenda sheet pen
  entering-as {pen} x = subst (λ (w : Values). Entering w addenda sheet pen) same x

  pub entered-as : {pen : Pen} (r : Entered) (after : List ℕ)
      → ((x : Entering u addenda sheet pen) → EnteredAs u x.others x.begun.file x.begun.past r after)
      → (x : Entering v addenda sheet pen) → EnteredAs v x.others x.begun.file x.begun.past r after
  entered-as {pen} r after done =
      subst (λ (w : Values). (x : Entering w addenda sheet pen) → EnteredAs w x.others x.begun.file x.begun.past r after) (sym same) done

  pub ready-as : {s : Standing} {room : ℕ} → ReadyOne v addenda sheet s room → ReadyOne u addenda sheet s room
  ready-as {s} {room} x = subst (λ (w : Values). ReadyOne w addenda sheet s room) same x

  pub written_as : {s : Standing} {room : ℕ} {out after : List ℕ} {s' : Standing} {bytes : ℕ} {out' : List ℕ}
      → ((x : ReadyOne u addenda sheet s room) → Onward (u ∷ x.others) x.ready.file x.ready.past out x.others after s' bytes out')
      → (x : ReadyOne v addenda sheet s room) → Onward (v ∷ x.others) x.ready.file x.ready.past out x.others after s' bytes out'
  written_as {s} {room} {out} {after} {s'} {bytes} {out'} done =
      subst (λ (w : Values). (x : ReadyOne w addenda sheet s room) → Onward (w ∷ x.others) x.ready.file x.ready.past out x.others after s' bytes out') (sym same) done
