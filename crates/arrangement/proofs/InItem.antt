-- What the records before one within an item come to: its cash letter, and what its views have to equal. Assumes nothing.
use mathlib.Core.Bool.{Bool, true, false, ◌||◌, cond}
use Prim.Native.Nat.{ℕ}
use mathlib.Core.Option.{Option, none, some}
use mathlib.Core.Path.{◌≡◌, refl, ap, ◌∙◌}
use mathlib.Core.List.{List, [], ◌∷◌}
use lib.Dec.{eqb}
use Rattle.text.specs.declared.character_set.CharacterSet.{CharacterSet}
use Rattle.text.specs.declared.character_set.CharacterSet.TheVariants.{Ascii, Ebcdic}
use Rattle.text.specs.Capitals.{capital}
use Rattle.layout.specs.Layouts.{cash_letter_header, bundle_header}
use Rattle.judge.specs.Alone.{type_of}
use Rattle.order.specs.MayFollow.{is_item}
use Rattle.file_as_records.specs.Framed.{Body, field_of}
use Rattle.file_as_records.proofs.Figures.{is, newest, sequence_of, signature_of, indicator_in, indicator_of, inside_in, holder_in}
use Rattle.file_as_records.proofs.Good.{onto}
use Rattle.arrangement.specs.Tree.{View, Addenda, of_check, of_return, of_credit}
use Rattle.arrangement.specs.Sound.{All, IfAny, indicator, Owner}
use Rattle.arrangement.specs.TypesInPlace.{OfType, TypedView, TypedAddenda}
use Rattle.arrangement.proofs.Quiet.{Quiet, quiet_step}
use Rattle.arrangement.proofs.After.{after_optional, after_view, after_addenda}

-- how the figures go on against which a view is held
abbrev pub next_letter : ℕ → Body → Body → Body
next_letter t b x = cond (is 10 t) b x

abbrev pub next_header : ℕ → Body → Body → Body
next_header t b x = cond (is 20 t) b x

abbrev pub next_detail : ℕ → Body → Body → Body
next_detail t b x = cond (is_item t) b x

abbrev pub next_inside : ℕ → Body → Bool → Bool
next_inside t b x = cond (eqb t 20) true (cond (eqb t 70) false x)

abbrev pub next_holder : ℕ → Body → ℕ → ℕ
next_holder t b x = cond (eqb t 10 || (eqb t 20 || eqb t 70)) 0 (cond (is_item t) t x)

abbrev pub next_signature : CharacterSet → ℕ → Body → ℕ → ℕ
next_signature set t b x = cond (is 50 t) (signature_of set b) x

-- the owner of a view, by these figures
abbrev pub owner_of : Bool → Body → Body → ℕ → Body → Owner
owner_of inside letter header holder detail =
    record {
      institution = cond inside (field_of bundle_header 4 header) (field_of cash_letter_header 4 letter);
      date = cond inside (field_of bundle_header 5 header) (field_of cash_letter_header 5 letter);
      cycle = cond inside (some (field_of bundle_header 9 header)) none;
      sequence = sequence_of holder detail;
    }

abbrev pub owner_in : CharacterSet → List Body → Owner
owner_in set past = owner_of (inside_in set past) (newest set (is 10) past) (newest set (is 20) past) (holder_in set past) (newest set is_item past)

-- the records before an item, or behind it: whether it stands in a bundle, its cash letter header, the newest bundle header
pub record Around (set : CharacterSet) (inside : Bool) (letter header : Body) (past : List Body) : Type 0 where
  pub inside_is : inside_in set past ≡ inside
  pub letter-is : newest set (is 10) past ≡ letter
  pub header_is : newest set (is 20) past ≡ header

-- those before a record of it: the same of its cash letter, and the owner of its views
pub record InItem (set : CharacterSet) (inside : Bool) (letter : Body) (o : Owner) (past : List Body) : Type 0 where
  pub inside_is : inside_in set past ≡ inside
  pub letter-is : newest set (is 10) past ≡ letter
  pub owner-is : owner_in set past ≡ o

-- a type of record that stands within an item, but not first; `search` proves it of a numeral
pub record Inner (t : ℕ) : Type 0 where
  pub insides : Quiet next_inside t
  pub letters : Quiet next_letter t
  pub heads : Quiet next_header t
  pub holds : Quiet next_holder t
  pub details : Quiet next_detail t

module _ (set : CharacterSet) (inside : Bool) (letter : Body) (o : Owner) where
  pub in_step : (past : List Body) (b : Body) (t : ℕ) → type_of set b ≡ t → Inner t → InItem set inside letter o past
      → InItem set inside letter o (b ∷ past)
  in_step past b t k q h =
      let insides = quiet_step set false next_inside past b t k q.insides in
      let letters = quiet_step set [] next_letter past b t k q.letters in
      record {
        inside_is = insides ∙ h.inside_is;
        letter-is = letters ∙ h.letter-is;
        owner-is =
            rw (
              insides,
              letters,
              quiet_step set [] next_header past b t k q.heads,
              quiet_step set 0 next_holder past b t k q.holds,
              quiet_step set [] next_detail past b t k q.details,
            ) h.owner-is;
      }

  pub in-optional : (past : List Body) (x : Option Body) (t : ℕ) → IfAny (OfType set t) x → Inner t → InItem set inside letter o past
      → InItem set inside letter o (after_optional past x)
  in-optional past none t k q h = h
  in-optional past (some b) t k q h = in_step past b t k q h

  pub in-run : (past bs : List Body) (t : ℕ) → All (OfType set t) bs → Inner t → InItem set inside letter o past
      → InItem set inside letter o (onto bs past)
  in-run past [] t k q h = h
  in-run past (b ∷ bs) t k q h = in-run (b ∷ past) bs t k.1 q (in_step past b t k.0 q h)

  pub in-view : (past : List Body) (v : View) → TypedView set v → InItem set inside letter o past → InItem set inside letter o (after_view past v)
  in-view past v k h =
      in-optional (v.image ∷ v.detail ∷ past) v.analysis 54 k.analysis (search)
      (in_step (v.detail ∷ past) v.image 52 k.image (search) (in_step past v.detail 50 k.detail (search) h))

  pub in-addenda : (past : List Body) (a : Addenda) → TypedAddenda set a → InItem set inside letter o past
      → InItem set inside letter o (after_addenda past a)
  in-addenda past (of_check a b c) k h =
      in-run (after_optional (onto a past) b) c 28 k.addenda-c (search)
      (in-optional (onto a past) b 27 k.addendum-b (search) (in-run past a 26 k.addenda-a (search) h))
  in-addenda past (of_return a b c d) k h =
      in-run (after_optional (b ∷ onto a past) c) d 35 k.addenda-d (search)
      (in-optional (b ∷ onto a past) c 34 k.addendum-c (search)
      (in_step (onto a past) b 33 k.addendum-b (search) (in-run past a 32 k.addenda-a (search) h)))
  in-addenda past of_credit k h = h

-- the cash letter header has the indicator; where there is none, both are 0
no-capital : (set : CharacterSet) → 0 ≡ capital set 0
unfolding capital
no-capital Ascii = refl
no-capital Ebcdic = refl

indicates : (set : CharacterSet) (past : List Body) → indicator_in set past ≡ indicator_of set (newest set (is 10) past)
indicates set [] = no-capital set
indicates set (b ∷ past) = rw (indicates set past) (either (is 10 (type_of set b)))
  where
    either : (c : Bool) → cond c (indicator_of set b) (indicator_of set (newest set (is 10) past)) ≡ indicator_of set (cond c b (newest set (is 10) past))
    either true = refl
    either false = refl

pub indicator-is : (set : CharacterSet) {letter : Body} (past : List Body) → newest set (is 10) past ≡ letter
    → indicator_in set past ≡ indicator set letter
indicator-is set past e = indicates set past ∙ ap (indicator_of set) e
