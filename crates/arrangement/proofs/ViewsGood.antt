-- The records of sound views are good, one after the other. Assumes nothing.
use Prim.Native.Nat.{ℕ}
use native.Mathlib.Omega.{arith}
use mathlib.Core.Bool.{Bool, true, false, cond}
use mathlib.Core.Option.{Option, none, some}
use mathlib.Core.Path.{◌≡◌, refl, sym, ap, ◌∙◌, subst}
use mathlib.Core.List.{List, [], ◌∷◌}
use lib.ListN.{length}
use Rattle.text.specs.declared.character_set.CharacterSet.{CharacterSet}
use Rattle.text.specs.DataTypes.{every}
use Rattle.layout.specs.Layouts.{bundle_header, image_view_data, image_view_analysis}
use Rattle.order.specs.MayFollow.{is_carried, follows}
use Rattle.file_as_records.specs.Framed.{Body, field_of}
use Rattle.file_as_records.proofs.Figures.{inside_in, is, newest, last_in}
use Rattle.file_as_records.proofs.Good.{GoodTo}
use Rattle.file_as_records.proofs.LinksByName.{ViewLinked}
use Rattle.arrangement.specs.Tree.{View}
use Rattle.arrangement.specs.Written.{optional_then, view_then, views_then}
use Rattle.arrangement.specs.Sound.{All, IfAny, Right, indicator, E, Owner, Equals, SoundView}
use Rattle.arrangement.proofs.Rightness.{known-54}
use Rattle.arrangement.proofs.After.{after_optional, after_view, after_views}
use Rattle.arrangement.proofs.Quiet.{step}
use Rattle.arrangement.proofs.Turns.{Settled}
use Rattle.arrangement.proofs.InItem.{InItem, in_step, in-view, indicator-is, next_signature}
use Rattle.arrangement.proofs.Making.{Allow, allow-first, allow-rest, settled-kept, made_plain, made-50, made-52, settled_on, allow-at}
use Rattle.arrangement.proofs.SoundTyped.{view-typed}

-- types that may come behind a view, in a bundle or outside, besides another one; at types written out each fact is `refl`
pub record Ends (inside : Bool) (ends : List ℕ) : Type 0 where
  pub behind-50 : every (follows inside 50) (52 ∷ []) ≡ true
  pub behind-52 : every (follows inside 52) (54 ∷ 50 ∷ ends) ≡ true
  pub behind-54 : every (follows inside 54) (50 ∷ ends) ≡ true

-- "its field 4 is not compared" outside a bundle
cycle-out : (inside : Bool) (xs ys : List ℕ) → Equals (cond inside (some ys) none) xs → inside ≡ true → xs ≡ ys
cycle-out true xs ys h e = h
cycle-out false xs ys h e = cc

module _ (End : List Body → Type 0) (set : CharacterSet) (inside : Bool) (ends : List ℕ) (order : Ends inside ends) (letter : Body) (o : Owner) where
  analysis-good : (past : List Body) (x : Option Body) (rest : List Body) → IfAny (Right set image_view_analysis) x → InItem set inside letter o past
      → Settled set past → last_in set past ≡ 52
      → (Settled set (after_optional past x) → Allow set (50 ∷ ends) (after_optional past x) → GoodTo End set (after_optional past x) rest)
      → GoodTo End set past (optional_then x rest)
  unfolding is_carried
  analysis-good past none rest right within settled last on =
      on settled (allow-rest set (allow-at set (54 ∷ 50 ∷ ends) within.inside_is last order.behind-52))
  analysis-good past (some b) rest right within settled last on =
      let now = in_step set inside letter o past b 54 right.type (search) within in
      let allowed : Allow set (54 ∷ 50 ∷ ends) past = allow-at set (54 ∷ 50 ∷ ends) within.inside_is last order.behind-52 in
      record {
        first =
            made_plain set image_view_analysis (known-54 set) refl refl past b right (allow-first set allowed) (settled-kept set 54 past refl settled) refl;
        rest =
            on (settled_on set past b 54 right.type refl refl settled) (allow-at set (50 ∷ ends) now.inside_is right.type order.behind-54);
      }

  view-good : (past : List Body) (v : View) (rest : List Body) → SoundView set o v → InItem set inside letter o past → (indicator set letter ≡ E → ⊥)
      → Settled set past → Allow set (50 ∷ ends) past
      → (Settled set (after_view past v) → Allow set (50 ∷ ends) (after_view past v) → GoodTo End set (after_view past v) rest)
      → GoodTo End set past (view_then v rest)
  view-good past v rest sound within seen settled allowed on =
      let d = v.detail ∷ past in
      let typed = view-typed set o v sound in
      let now = in_step set inside letter o past v.detail 50 typed.detail (search) within in
      let imaged = in_step set inside letter o d v.image 52 typed.image (search) now in
      let owner = sym now.owner-is in
      let signature = step set 0 (next_signature set) past v.detail 50 typed.detail in
      let settled-50 = settled_on set past v.detail 50 typed.detail refl refl settled in
      let settled-52 = settled_on set d v.image 52 typed.image refl refl settled-50 in
      let cycle : List ℕ = field_of image_view_data 4 v.image in
      let above : List ℕ = field_of bundle_header 9 (newest set (is 20) d) in
      let links : ViewLinked set d v.image =
      record {
        institution = sound.institution ∙ ap (λ (p : Owner). p.institution) owner;
        date = sound.date ∙ ap (λ (p : Owner). p.date) owner;
        cycle = cycle-out (inside_in set d) cycle above (subst (λ (p : Owner). Equals p.cycle cycle) owner sound.cycle);
        number = sound.number ∙ ap (λ (p : Owner). p.sequence) owner;
        signer = λ e. sound.signer (sym signature ∙ e);
        key = λ e. sound.key (sym signature ∙ e);
      } in
      let behind-50 : Allow set (52 ∷ []) d = allow-at set (52 ∷ []) now.inside_is typed.detail order.behind-50 in
      record {
        first =
            made-50 set past v.detail sound.detail (allow-first set allowed) settled (λ e. seen (sym (indicator-is set past within.letter-is) ∙ e));
        rest =
            record {
              first = made-52 set d v.image sound.image (allow-first set behind-50) settled-50 links;
              rest = analysis-good (v.image ∷ d) v.analysis rest sound.analysis imaged settled-52 typed.image on;
            };
      }

  pub views-good : (past : List Body) (vs : List View) (rest : List Body) → All (SoundView set o) vs → InItem set inside letter o past
      → (indicator set letter ≡ E → length vs ≡ 0) → Settled set past → Allow set (50 ∷ ends) past
      → (Settled set (after_views past vs) → Allow set (50 ∷ ends) (after_views past vs) → GoodTo End set (after_views past vs) rest)
      → GoodTo End set past (views_then vs rest)
  views-good past [] rest sound within unseen settled allowed on = on settled allowed
  views-good past (v ∷ vs) rest sound within unseen settled allowed on =
      let seen : indicator set letter ≡ E → ⊥ = λ e. omega (arith, unseen e) in
      view-good past v (views_then vs rest) sound.0 within seen settled allowed
      (λ s a. views-good (after_view past v) vs rest sound.1 (in-view set inside letter o past v (view-typed set o v sound.0) within)
      (λ h. absurd (seen h)) s a on)
