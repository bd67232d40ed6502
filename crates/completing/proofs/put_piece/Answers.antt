use mathlib.Core.Path.{sym, ◌∙◌}
use Prim.Native.Nat.{◌+◌}
use borrow.Author.Rules.{rules}
use lib.ListN.{length}
use Rattle.completing.proofs.Laws.{lies_in}
use Rattle.completing.proofs.put_piece.Goals as goal

pub overflow_add-from : goal.overflow_add-from
overflow_add-from c = let h = lies_in (length c.args.text.now) (c.args.start + c.args.place) c.args.size (sym c.lies_within.ensures ∙ c.if-not-lies_within.false) c.if-size-eq0.false in search rules

pub copy_bytes-requires : goal.copy_bytes-requires
copy_bytes-requires c = (lies_in (length c.args.text.now) (c.args.start + c.args.place) c.args.size (sym c.lies_within.ensures ∙ c.if-not-lies_within.false) c.if-size-eq0.false, c.requires)

pub translate_bytes-requires : goal.translate_bytes-requires
translate_bytes-requires c = (lies_in (length c.args.text.now) (c.args.start + c.args.place) c.args.size (sym c.lies_within.ensures ∙ c.if-not-lies_within.false) c.if-size-eq0.false, c.requires)
