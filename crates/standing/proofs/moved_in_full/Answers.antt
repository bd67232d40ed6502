use Prim.Native.Nat.{ℕ, ◌+◌}
use mathlib.Core.Bool.{Bool, false, cond}
use mathlib.Core.Path.{◌≡◌, refl, ◌∙◌, ap}
use lib.Dec.{eqb}
use borrow.Author.Tests.{ne_eqb}
use Rattle.measure.specs.Measures.{items, cents, capped}
use Rattle.standing.specs.History.{one, stated_by}
use Rattle.standing.specs.Standing.{onward}
use Rattle.standing.proofs.Laws.{since-moves, sums-move, assembled}
use Rattle.standing.proofs.moved_in_full.Goals.{then-item, else-item, then-item-2, else-item-2, then-bundle, else-bundle, then-letter, else-letter}
use Rattle.standing.proofs.moved_in_full.Goals as goal

pub returns : goal.returns
unfolding onward
returns c =
    let stated : c.if-item.result ≡ cond c.is_item-item.result (stated_by c.args.set c.args.file.now c.args.kind c.args.offset) c.args.s.stated =
    elim c.if-item.branch [ then-item w ↦ rw w.if-item.true (w.result-is ∙ w.stated_at.ensures) | else-item w ↦ rw w.if-item.false w.result-is ] in
    let item : c.if-item-2.result ≡ cond c.is_item-item.result c.args.offset c.args.s.item =
    elim c.if-item-2.branch [ then-item-2 w ↦ rw w.if-item-2.true w.result-is | else-item-2 w ↦ rw w.if-item-2.false w.result-is ] in
    let header : c.if-bundle.result ≡ cond (eqb c.args.kind 20) c.args.offset c.args.s.header =
    elim c.if-bundle.branch [ then-bundle w ↦ rw w.if-bundle.true w.result-is | else-bundle w ↦ rw (ne_eqb _ _ w.if-bundle.false) w.result-is ] in
    let heading : c.if-letter.result ≡ cond (eqb c.args.kind 10) c.args.offset c.args.s.heading =
    elim c.if-letter.branch [ then-letter w ↦ rw w.if-letter.true w.result-is | else-letter w ↦ rw (ne_eqb _ _ w.if-letter.false) w.result-is ] in
    assembled
    refl
    c.inside_after.ensures
    c.present_after.ensures
    c.holder_after.ensures
    refl
    (ap (λ (m : ℕ). m + c.args.s.letters) c.from.ensures)
    (ap (λ (m : ℕ). m + c.args.s.bundles) c.from-2.ensures)
    (since-moves c.args.s.opened c.since.ensures (refl {a = eqb c.args.kind 10}) c.from-3.ensures)
    (ap (λ (m : ℕ). items (m + c.args.s.items.0)) (c.from-4.ensures ∙ ap one c.is_item-item.ensures))
    (since-moves c.args.s.ordinal c.since-2.ensures (refl {a = eqb c.args.kind 20}) (c.from-5.ensures ∙ ap one c.is_item-item.ensures))
    (sums-move false c.args.s.whole c.since-3.ensures c.added_at-added.ensures.0)
    (sums-move (eqb c.args.kind 10) c.args.s.letter c.since-4.ensures c.added_at-added.ensures.0)
    (sums-move (eqb c.args.kind 20) c.args.s.bundle c.since-5.ensures c.added_at-added.ensures.0)
    (c.cents_since.ensures ∙ ap (λ (m : ℕ). cents (capped (cond (eqb c.args.kind 20) 0 (m + c.args.s.micr.0)))) c.micr_at-micr.ensures.0)
    (since-moves c.args.s.addenda c.since-6.ensures c.is_item-item.ensures (c.from-6.ensures ∙ ap one c.is_addendum.ensures))
    (since-moves c.args.s.bofd c.since-7.ensures c.is_item-item.ensures c.from-7.ensures)
    (since-moves c.args.s.endorser c.since-8.ensures c.is_item-item.ensures c.from-8.ensures)
    (since-moves c.args.s.shown c.since-9.ensures c.is_item-item.ensures c.from-9.ensures)
    (stated ∙ ap (λ (b : Bool). cond b (stated_by c.args.set c.args.file.now c.args.kind c.args.offset) c.args.s.stated) c.is_item-item.ensures)
    (item ∙ ap (λ (b : Bool). cond b c.args.offset c.args.s.item) c.is_item-item.ensures)
    header
    heading
    c.indicator_after.ensures
    c.signature_after.ensures
