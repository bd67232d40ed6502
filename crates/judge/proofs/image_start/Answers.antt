use native.Mathlib.Omega.{arith}
use Rattle.judge.specs.Alone.{stated_sizes}
use Rattle.judge.proofs.Laws.{sound-fills}
use Rattle.layout.specs.Layout.{sized_parts}
use Rattle.layout.specs.Layouts.{image_view_data}
use Rattle.judge.proofs.image_start.Goals as goal

pub sizes_of-requires : goal.sizes_of-requires
unfolding stated_sizes
sizes_of-requires c = omega (arith, sound-fills c.args.set 139 image_view_data.lines (sized_parts image_view_data) c.args.body.now c.requires.0)

pub overflow_add-result : goal.overflow_add-result
unfolding stated_sizes
overflow_add-result c = omega (arith, sound-fills c.args.set 139 image_view_data.lines (sized_parts image_view_data) c.args.body.now c.requires.0, c.sizes_of.ensures 22)
