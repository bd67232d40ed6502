-- What the links of a record say, each by its name, and that its checks say the same. Assumes nothing.
use Prim.Native.Nat.{ℕ}
use mathlib.Core.Bool.{Bool, true, false, cond}
use mathlib.Core.List.{List, []}
use mathlib.Core.Path.{◌≡◌, refl}
use lib.Dec.{eqb}
use Rattle.text.specs.declared.character_set.CharacterSet.{CharacterSet}
use Rattle.text.specs.Characters.{is_blank}
use Rattle.text.specs.DataTypes.{every}
use Rattle.layout.specs.Layouts.{bundle_header, image_view_data}
use Rattle.order.specs.MayFollow.{is_item}
use Rattle.agree.specs.Links.{addenda_kept, annex_b}
use Rattle.file_as_records.specs.Framed.{Body, field_of}
use Rattle.file_as_records.proofs.CheckLists.{AllHold, date_in, institution_in, link_checks, numbered_as, view_checks, ◌and◌, end}
use Rattle.file_as_records.proofs.Figures.{addenda_in, holder_in, indicator_in, inside_in, opened_in, sequence_of, shown_in, signature_in, is, newest, stated_in}
use Rattle.file_as_records.proofs.Tests.{same_in, same_out, signed-in, signed-out, where-in, where-out}

-- a 52, with the header of its bundle or, outside one, of its cash letter, with its item, and with the 50 before it
pub record ViewLinked (set : CharacterSet) (past : List Body) (b : Body) : Type 0 where
  pub institution : field_of image_view_data 2 b ≡ institution_in set past
  pub date : field_of image_view_data 3 b ≡ date_in set past
  pub cycle : inside_in set past ≡ true → field_of image_view_data 4 b ≡ field_of bundle_header 9 (newest set (is 20) past)
  pub number : field_of image_view_data 5 b ≡ sequence_of (holder_in set past) (newest set is_item past)
  pub signer : signature_in set past ≡ 1 → every (is_blank set) (field_of image_view_data 7 b) ≡ false
  pub key : signature_in set past ≡ 1 → every (is_blank set) (field_of image_view_data 8 b) ≡ false

-- a record of type k
pub record Linked (set : CharacterSet) (k : ℕ) (past : List Body) (b : Body) : Type 0 where
  pub addenda : addenda_kept k (stated_in set past) (addenda_in set past) ≡ true
  pub annex-b : annex_b k (indicator_in set past) (opened_in set past) (holder_in set past) (shown_in set past) ≡ true
  pub numbered : numbered_as set k past b ≡ true
  pub view : eqb k 52 ≡ true → ViewLinked set past b

view_in : (set : CharacterSet) (past : List Body) (b : Body) → AllHold (view_checks set past b) → ViewLinked set past b
view_in set past b (institution and date and cycle and number and signer and key and end) =
    record {
      institution = same_in _ _ institution;
      date = same_in _ _ date;
      cycle = λ inside. same_in _ _ (where-in _ _ cycle inside);
      number = same_in _ _ number;
      signer = signed-in _ _ signer;
      key = signed-in _ _ key;
    }

view_out : (set : CharacterSet) (past : List Body) (b : Body) → ViewLinked set past b → AllHold (view_checks set past b)
view_out set past b v =
    same_out _ _ v.institution and same_out _ _ v.date and where-out _ _ (λ inside. same_out _ _ (v.cycle inside))
    and same_out _ _ v.number and signed-out _ _ v.signer and signed-out _ _ v.key and end

pub links-in : (set : CharacterSet) (k : ℕ) (past : List Body) (b : Body) → AllHold (link_checks set k past b) → Linked set k past b
links-in set k past b (addenda and annex-b and numbered and view) =
    record { addenda = addenda; annex-b = annex-b; numbered = numbered; view = λ e. view_in set past b (rw e at view) }

pub links-out : (set : CharacterSet) (k : ℕ) (past : List Body) (b : Body) → Linked set k past b → AllHold (link_checks set k past b)
links-out set k past b l = l.addenda and l.annex-b and l.numbered and of-view (eqb k 52) l.view
  where
    of-view : (c : Bool) → (c ≡ true → ViewLinked set past b) → AllHold (cond c (view_checks set past b) [])
    of-view true v = view_out set past b (v refl)
    of-view false v = end
