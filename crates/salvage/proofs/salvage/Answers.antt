use mathlib.Core.Path.{sym, ◌∙◌}
use Rattle.std.specs.Prelude.{Err}
use Rattle.passes.specs.declared.Fault.TheVariants.{Size, Nothing}
use Rattle.salvage.specs.Steps.{WalkedTo, SalvagedAs}
use Rattle.salvage.proofs.Begun.{walked_to, walked-count}
use Rattle.salvage.proofs.Settled.{as-built, done, settled-size, settled-nothing}
use Rattle.salvage.proofs.salvage.Goals as goal

pub is_anything-requires : goal.is_anything-requires
is_anything-requires c = (let to_the_end' : WalkedTo c.set_of-set.result c.args.file.now c.walk-way.result.end = walked_to c.set_of-set.ensures (sym c.is_of_size.ensures ∙ c.if-not-is_of_size.false) c.walk-way.ensures.0 c.walk-way.ensures.2 in to_the_end')

pub salvage_left-requires : goal.salvage_left-requires
salvage_left-requires c = ((let to_the_end' : WalkedTo c.set_of-set.result c.args.file.now c.walk-way.result.end = walked_to c.set_of-set.ensures (sym c.is_of_size.ensures ∙ c.if-not-is_of_size.false) c.walk-way.ensures.0 c.walk-way.ensures.2 in to_the_end'), walked-count c.args.file.now c.set_of-set.ensures c.walk-way.ensures.1, sym c.is_anything.ensures ∙ c.if-not-is_anything.false)

pub returns-then-not-is_of_size : goal.returns-then-not-is_of_size
returns-then-not-is_of_size c =
    let s : SalvagedAs c.args.file.now c.args.out.now c.args.list.now (Err c.of_file.result) c.args.out.now c.args.list.now =
    rw (as-built c.of_file.result Size 0 c.of_file.ensures) (settled-size c.args.file.now c.args.out.now c.args.list.now (sym c.is_of_size.ensures ∙ c.if-not-is_of_size.true)) in
    let k = done c.args.file.now c.args.out.now c.args.list.now s in
    record { answer = k.0; buffer = k.1.0; rows = k.1.1.0; promised = k.1.1.1 }

pub returns-then-not-is_anything : goal.returns-then-not-is_anything
returns-then-not-is_anything c =
    let w : WalkedTo c.set_of-set.result c.args.file.now c.walk-way.result.end = walked_to c.set_of-set.ensures (sym c.is_of_size.ensures ∙ c.if-not-is_of_size.false) c.walk-way.ensures.0 c.walk-way.ensures.2 in
    let s : SalvagedAs c.args.file.now c.args.out.now c.args.list.now (Err c.of_file-then-not-is_anything.result) c.args.out.now c.args.list.now =
    rw (as-built c.of_file-then-not-is_anything.result Nothing 0 c.of_file-then-not-is_anything.ensures) (settled-nothing c.args.file.now c.args.out.now c.args.list.now w (sym c.is_anything.ensures ∙ c.if-not-is_anything.true)) in
    let k = done c.args.file.now c.args.out.now c.args.list.now s in
    record { answer = k.0; buffer = k.1.0; rows = k.1.1.0; promised = k.1.1.1 }

pub returns : goal.returns
returns c =
    let k = done c.args.file.now c.args.out.now c.args.list.now c.salvage_left.ensures in
    record { answer = k.0; buffer = k.1.0; rows = k.1.1.0; promised = k.1.1.1 }
