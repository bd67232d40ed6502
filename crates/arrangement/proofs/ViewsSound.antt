-- Good records in the places of views make them sound. Assumes nothing.
use Prim.Native.Nat.{ℕ}
use mathlib.Core.Bool.{Bool, true, false, cond}
use mathlib.Core.Option.{Option, none, some}
use mathlib.Core.Path.{◌≡◌, refl, ap, ◌∙◌, subst}
use mathlib.Core.List.{List, [], ◌∷◌}
use lib.ListN.{length}
use Rattle.text.specs.declared.character_set.CharacterSet.{CharacterSet}
use Rattle.layout.specs.Layouts.{bundle_header, image_view_detail, image_view_data, image_view_analysis}
use Rattle.file_as_records.specs.Framed.{Body, field_of}
use Rattle.file_as_records.proofs.Figures.{inside_in, is, newest}
use Rattle.file_as_records.proofs.Good.{GoodTo}
use Rattle.arrangement.specs.Tree.{View}
use Rattle.arrangement.specs.Written.{optional_then, view_then, views_then}
use Rattle.arrangement.specs.Sound.{All, IfAny, Right, indicator, E, Owner, Equals, SoundView}
use Rattle.arrangement.specs.TypesInPlace.{OfType, TypedView}
use Rattle.arrangement.proofs.Rightness.{right-in, known-50, known-52, known-54}
use Rattle.arrangement.proofs.After.{after_optional, after_view, after_views}
use Rattle.arrangement.proofs.Quiet.{step}
use Rattle.arrangement.proofs.Turns.{as-type, view_in, Found}
use Rattle.arrangement.proofs.InItem.{InItem, in_step, in-view, indicator-is, next_signature}

-- a view found sound, in a cash letter that may have one
record ViewFound (End : List Body → Type 0) (set : CharacterSet) (letter : Body) (o : Owner) (v : View) (past rest : List Body) : Type 0 where
  sound : SoundView set o v
  allowed : indicator set letter ≡ E → ⊥
  behind : GoodTo End set (after_view past v) rest

pub record ViewsFound (End : List Body → Type 0) (set : CharacterSet) (letter : Body) (o : Owner) (vs : List View) (past rest : List Body) : Type 0 where
  pub sound : All (SoundView set o) vs
  pub unseen : indicator set letter ≡ E → length vs ≡ 0
  pub behind : GoodTo End set (after_views past vs) rest

analysis-sound : {End : List Body → Type 0} (set : CharacterSet) (past : List Body) (o : Option Body) (rest : List Body) → IfAny (OfType set 54) o
    → GoodTo End set past (optional_then o rest)
    → Found End set (IfAny (Right set image_view_analysis) o) (after_optional past o) rest
analysis-sound set past none rest typed good = record { sound = tt; behind = good }
analysis-sound set past (some b) rest typed good =
    record { sound = right-in set image_view_analysis b (known-54 set) typed (as-type set 54 past b typed good.first).alone; behind = good.rest }

-- "its field 4 is not compared" outside a bundle
cycle-in : (inside : Bool) (xs ys : List ℕ) → (inside ≡ true → xs ≡ ys) → Equals (cond inside (some ys) none) xs
cycle-in true xs ys h = h refl
cycle-in false xs ys h = tt

module _ (set : CharacterSet) (inside : Bool) (letter : Body) (o : Owner) where
  view-sound : {End : List Body → Type 0} (past : List Body) (v : View) (rest : List Body) → TypedView set v → InItem set inside letter o past
      → GoodTo End set past (view_then v rest)
      → ViewFound End set letter o v past rest
  view-sound past v rest typed within good =
      let detail = as-type set 50 past v.detail typed.detail good.first in
      let image = as-type set 52 (v.detail ∷ past) v.image typed.image good.rest.first in
      let analysis = analysis-sound set (v.image ∷ v.detail ∷ past) v.analysis rest typed.analysis good.rest.rest in
      let owner = (in_step set inside letter o past v.detail 50 typed.detail (search) within).owner-is in
      let signature = step set 0 (next_signature set) past v.detail 50 typed.detail in
      let cycle : List ℕ = field_of image_view_data 4 v.image in
      let above : List ℕ = field_of bundle_header 9 (newest set (is 20) (v.detail ∷ past)) in
      let links = image.linked.view refl in
      record {
        sound =
            record {
              detail = right-in set image_view_detail v.detail (known-50 set) typed.detail detail.alone;
              image = right-in set image_view_data v.image (known-52 set) typed.image image.alone;
              analysis = analysis.sound;
              institution = links.institution ∙ ap (λ (p : Owner). p.institution) owner;
              date = links.date ∙ ap (λ (p : Owner). p.date) owner;
              cycle = subst (λ (p : Owner). Equals p.cycle cycle) owner (cycle-in (inside_in set (v.detail ∷ past)) cycle above links.cycle);
              number = links.number ∙ ap (λ (p : Owner). p.sequence) owner;
              signer = λ e. links.signer (signature ∙ e);
              key = λ e. links.key (signature ∙ e);
            };
        allowed = λ e. view_in set past v.detail detail (indicator-is set past within.letter-is ∙ e);
        behind = analysis.behind;
      }

  pub views-sound : {End : List Body → Type 0} (past : List Body) (vs : List View) (rest : List Body) → All (TypedView set) vs → InItem set inside letter o past
      → GoodTo End set past (views_then vs rest) → ViewsFound End set letter o vs past rest
  views-sound past [] rest typed within good = record { sound = tt; unseen = λ e. refl; behind = good }
  views-sound past (v ∷ vs) rest typed within good =
      let here = view-sound past v (views_then vs rest) typed.0 within good in
      let others = views-sound (after_view past v) vs rest typed.1 (in-view set inside letter o past v typed.0 within) here.behind in
      record { sound = (here.sound, others.sound); unseen = λ e. absurd (here.allowed e); behind = others.behind }
