-- Good records in the places of what a cash letter holds, bundles and credits, make it sound. Assumes nothing.
use Prim.Native.Nat.{◌≤◌}
use native.Mathlib.Omega.{arith}
use mathlib.Core.Bool.{Bool, true, false}
use mathlib.Core.Path.{◌≡◌, refl, ◌∙◌}
use mathlib.Core.List.{List, [], ◌∷◌}
use lib.ListN.{length}
use Rattle.text.specs.declared.character_set.CharacterSet.{CharacterSet}
use Rattle.layout.specs.Layouts.{bundle_control, bundle_header}
use Rattle.judge.specs.Alone.{type_of}
use Rattle.order.specs.MayFollow.{follows}
use Rattle.file_as_records.specs.Framed.{Body}
use Rattle.file_as_records.proofs.Figures.{is, newest}
use Rattle.file_as_records.proofs.Good.{GoodTo}
use Rattle.arrangement.specs.Tree.{Item, Bundle, Credit, Content, bundled, direct}
use Rattle.arrangement.specs.Written.{items_then, bundle_then, credit_then, content_then, contents_then}
use Rattle.arrangement.specs.Sound.{All, in_letter, SoundBundle, SoundCredit, SoundContent}
use Rattle.arrangement.specs.TypesInPlace.{TypedBundle, TypedCredit, TypedContent}
use Rattle.arrangement.proofs.Rightness.{right-in, known-20, known-70}
use Rattle.arrangement.proofs.After.{after_items, after_bundle, after_credit, after_content, after_contents, as_item}
use Rattle.arrangement.proofs.Quiet.{step, item_of}
use Rattle.arrangement.proofs.Turns.{bundle-in, as-type, Found, not_after}
use Rattle.arrangement.proofs.InItem.{indicator-is}
use Rattle.arrangement.proofs.InLetter.{InLetter, bundle-begun, around-credit, behind-content}
use Rattle.arrangement.proofs.ItemFigures.{in-letter, next_present}
use Rattle.arrangement.proofs.Levels.{bundle-figures}
use Rattle.arrangement.proofs.ItemsSound.{item-sound, items-sound}

-- no bundle is empty: a 70 does not follow a 20
never-70 : (opened : Bool) → follows opened 20 70 ≡ false
unfolding follows
never-70 true = refl
never-70 false = refl

some_item : (End : List Body → Type 0) (set : CharacterSet) (its : List Item) (header c : Body) (past rest : List Body) → type_of set header ≡ 20 → type_of set c ≡ 70
    → GoodTo End set (header ∷ past) (items_then its (c ∷ rest)) → 1 ≤ length its
some_item End set [] header c past rest begins ends good = absurd (not_after set 70 20 past header c begins ends never-70 good.first)
some_item End set (i ∷ its) header c past rest begins ends good = omega arith

module _ (set : CharacterSet) (letter : Body) where
  bundle-sound : {End : List Body → Type 0} (b : Bundle) (past rest : List Body) → TypedBundle set b → InLetter set letter past → GoodTo End set past (bundle_then b rest)
      → Found End set (SoundBundle set letter b) (after_bundle past b) rest
  bundle-sound {End} b past rest typed here good =
      let header = as-type set 20 past b.header typed.header good.first in
      let around = bundle-begun set letter b.header past typed.header here in
      let its =
      items-sound set letter b.header b.items (b.header ∷ past) b.control rest typed.items typed.control around good.rest in
      let before = after_items (b.header ∷ past) b.items in
      let control = as-type set 70 before b.control typed.control its.behind.first in
      let totals = control.totalled.bundle refl in
      let f = bundle-figures set b past typed in
      record {
        sound =
            record {
              header = right-in set bundle_header b.header (known-20 set) typed.header header.alone;
              allowed = λ e. bundle-in set past b.header header (indicator-is set past here.letter-is ∙ e);
              filled = some_item End set b.items b.header b.control past rest typed.header typed.control good.rest;
              items = its.items;
              one-item-type = rw (step set 0 next_present past b.header 20 typed.header) at its.one-item-type;
              control = right-in set bundle_control b.control (known-70 set) typed.control control.alone;
              debit-count = totals.debit-count ∙ f.debits;
              debit-cents = totals.debit-cents ∙ f.debit;
              valid = rw f.valid at totals.valid;
              view-count = totals.view-count ∙ f.views;
              credit-count = totals.credit-count ∙ f.credits;
              credit-cents = totals.credit-cents ∙ f.credit;
            };
        behind = its.behind.rest;
      }

  credit-sound : {End : List Body → Type 0} (c : Credit) (past rest : List Body) → TypedCredit set c → InLetter set letter past → GoodTo End set past (credit_then c rest)
      → Found End set (SoundCredit set letter c) (after_credit past c) rest
  credit-sound c past rest typed here good =
      let within = in-letter set letter (newest set (is 20) past) c past typed (around-credit set letter past here) in
      let found = item-sound set false letter (in_letter letter c) (as_item c) past rest (item_of set c typed) within good in
      record { sound = record { detail = found.first.right; views = found.views; unseen = found.unseen }; behind = found.behind }

  pub content-sound : {End : List Body → Type 0} (c : Content) (past rest : List Body) → TypedContent set c → InLetter set letter past → GoodTo End set past (content_then c rest)
      → Found End set (SoundContent set letter c) (after_content past c) rest
  content-sound (bundled b) past rest typed here good = bundle-sound b past rest typed here good
  content-sound (direct c) past rest typed here good = credit-sound c past rest typed here good

  pub contents-sound : {End : List Body → Type 0} (cs : List Content) (past rest : List Body) → All (TypedContent set) cs → InLetter set letter past
      → GoodTo End set past (contents_then cs rest)
      → Found End set (All (SoundContent set letter) cs) (after_contents past cs) rest
  contents-sound [] past rest typed here good = record { sound = tt; behind = good }
  contents-sound (c ∷ cs) past rest typed here good =
      let first = content-sound c past (contents_then cs rest) typed.0 here good in
      let others = contents-sound cs (after_content past c) rest typed.1 (behind-content set letter c past typed.0 here) first.behind in
      record { sound = (first.sound, others.sound); behind = others.behind }
