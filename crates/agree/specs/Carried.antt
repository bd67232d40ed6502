-- The types that may stand in a file (order/specs/MayFollow.antt) are those that have a layout, in the order of the layouts.
use Rattle.std.specs.Prelude.{map, ◌≡◌, refl}
use Rattle.layout.specs.Layout.{Layout}
use Rattle.layout.specs.Layouts.{layouts}
use Rattle.order.specs.MayFollow.{carried}

pub carried-kinds : map (λ (k : Layout). k.type_number) layouts ≡ carried
carried-kinds = refl
