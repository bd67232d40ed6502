use Rattle.tiff_directory.proofs.Laws.{entry_of}
use Rattle.tiff_directory.proofs.entry_at.Goals as goal

pub returns : goal.returns
returns c =
    entry_of _ _ _ _ _ _ c.short_ahead-tag.ensures c.short_ahead-kind.ensures c.long_ahead-count.ensures c.long_ahead-value.ensures
