use Prim.Native.Nat.{◌+◌, ◌*◌, ◌≤◌}
use native.Mathlib.Numerals.{add-one}
use native.Mathlib.Omega.{arith}
use lib.ListN.{length, get_or, length-set}
use Rattle.book_model.specs.Table.{places_claimed, with_taken}
use Rattle.book_model.proofs.Taken.{free-within}
use Rattle.taken_list.proofs.put_taken.Goals as goal

pub bounds-list-0 : goal.bounds-list-0
bounds-list-0 c = omega (arith, (let place' : 3 + 2 * places_claimed c.args.list.now ≤ length c.args.list.now = free-within c.args.list.now c.requires.0 c.requires.1 in place'))

pub overflow_mul-at : goal.overflow_mul-at
overflow_mul-at c = omega (arith, (let place' : 3 + 2 * places_claimed c.args.list.now ≤ length c.args.list.now = free-within c.args.list.now c.requires.0 c.requires.1 in place'))

pub overflow_add-at : goal.overflow_add-at
overflow_add-at c = omega (arith, (let place' : 3 + 2 * places_claimed c.args.list.now ≤ length c.args.list.now = free-within c.args.list.now c.requires.0 c.requires.1 in place'))

pub overflow_add-list : goal.overflow_add-list
overflow_add-list c = omega (arith, (let place' : 3 + 2 * places_claimed c.args.list.now ≤ length c.args.list.now = free-within c.args.list.now c.requires.0 c.requires.1 in place'))

pub bounds-list-0-2 : goal.bounds-list-0-2
bounds-list-0-2 c = omega (arith, (let place' : 3 + 2 * places_claimed c.args.list.now ≤ length c.args.list.now = free-within c.args.list.now c.requires.0 c.requires.1 in place'))

pub offset_bounds-list-at : goal.offset_bounds-list-at
offset_bounds-list-at c = omega (arith, (let place' : 3 + 2 * places_claimed c.args.list.now ≤ length c.args.list.now = free-within c.args.list.now c.requires.0 c.requires.1 in place'))

pub bounds-list-at : goal.bounds-list-at
bounds-list-at c = simp length-set (omega (arith, (let place' : 3 + 2 * places_claimed c.args.list.now ≤ length c.args.list.now = free-within c.args.list.now c.requires.0 c.requires.1 in place')))

pub overflow_add-list-2 : goal.overflow_add-list-2
overflow_add-list-2 c = omega (arith, (let place' : 3 + 2 * places_claimed c.args.list.now ≤ length c.args.list.now = free-within c.args.list.now c.requires.0 c.requires.1 in place'))

pub offset_bounds-list-at-2 : goal.offset_bounds-list-at-2
offset_bounds-list-at-2 c = omega (arith, (let place' : 3 + 2 * places_claimed c.args.list.now ≤ length c.args.list.now = free-within c.args.list.now c.requires.0 c.requires.1 in place'))

pub bounds-list-at-2 : goal.bounds-list-at-2
bounds-list-at-2 c = simp length-set (omega (arith, (let place' : 3 + 2 * places_claimed c.args.list.now ≤ length c.args.list.now = free-within c.args.list.now c.requires.0 c.requires.1 in place')))

pub returns : goal.returns
unfolding with_taken
returns c = simp (add-one (1 + 2 * get_or c.args.list.now 0 0))
