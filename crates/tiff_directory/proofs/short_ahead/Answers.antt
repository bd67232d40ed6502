use mathlib.Core.Path.{◌∙◌}
use native.Mathlib.Nat.{add_assoc}
use borrow.Author.Rules.{rules}
use Rattle.tiff_directory.specs.Entries.{short_at}
use Rattle.tiff_directory.proofs.short_ahead.Goals as goal

pub returns : goal.returns
unfolding short_at
returns c = (c.from.ensures ∙ c.from_le_bytes.ensures ∙ simp (c.byte_ahead.ensures, c.byte_ahead-2.ensures, add_assoc), search rules)
