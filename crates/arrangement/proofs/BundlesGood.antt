-- The records of what a sound cash letter holds, bundles and credits, are good, one after the other. Assumes nothing.
use native.Mathlib.Omega.{arith}
use mathlib.Core.Bool.{true, false}
use mathlib.Core.Path.{◌≡◌, refl, sym, ap, ◌∙◌}
use mathlib.Core.List.{List, [], ◌∷◌}
use Rattle.text.specs.declared.character_set.CharacterSet.{CharacterSet}
use Rattle.judge.specs.Alone.{type_of}
use Rattle.order.specs.MayFollow.{is_check_or_return, is_one_of, follows}
use Rattle.file_as_records.specs.Framed.{Body}
use Rattle.file_as_records.proofs.Figures.{holder_in, is, newest}
use Rattle.file_as_records.proofs.Good.{GoodTo}
use Rattle.file_as_records.proofs.Tests.{refuted}
use Rattle.file_as_records.proofs.TotalsByName.{BundleTotals}
use Rattle.arrangement.specs.Tree.{Addenda, of_check, of_return, of_credit, Bundle, Credit, Content, bundled, direct}
use Rattle.arrangement.specs.Written.{bundle_then, credit_then, content_then, contents_then}
use Rattle.arrangement.specs.Sound.{All, layout_in, in_letter, SoundBundle, SoundCredit, SoundContent}
use Rattle.arrangement.proofs.After.{after_items, after_bundle, after_credit, after_content, after_contents, as_item}
use Rattle.arrangement.proofs.Quiet.{step, item_of}
use Rattle.arrangement.proofs.Levels.{bundle-figures}
use Rattle.arrangement.proofs.Turns.{Settled, Viewed}
use Rattle.arrangement.proofs.InItem.{indicator-is, next_holder}
use Rattle.arrangement.proofs.InLetter.{InLetter, bundle-begun, around-credit, behind-content}
use Rattle.arrangement.proofs.ItemFigures.{fresh, in-letter, item-figures, next_present}
use Rattle.arrangement.proofs.Making.{Allow, allow-at, allow-rest, made-20, made-70, made-item, settled_on}
use Rattle.arrangement.proofs.SoundTyped.{bundle-typed, credit-typed}
use Rattle.arrangement.proofs.ViewsGood.{Ends, views-good}
use Rattle.arrangement.proofs.ItemsGood.{Between, items-good}

-- before what a cash letter holds, and behind it: no view is owed, since no check or return comes before in the same bundle
pub record Holding (set : CharacterSet) (letter : Body) (past : List Body) : Type 0 where
  pub here : InLetter set letter past
  pub settled : Settled set past
  pub unheld : is_check_or_return (holder_in set past) ≡ false
  pub next : Allow set (20 ∷ 61 ∷ 90 ∷ []) past

none-owed : (set : CharacterSet) (past : List Body) → is_check_or_return (holder_in set past) ≡ false → Viewed set past
none-owed set past e = λ k h. refuted (is_check_or_return (holder_in set past)) e k

-- before a bundle's first item, whatever its type
first-item : (a : Addenda) → is_one_of (layout_in a).type_number (25 ∷ 31 ∷ 61 ∷ []) ≡ true
first-item (of_check a b c) = refl
first-item (of_return a b c d) = refl
first-item of_credit = refl

started : (set : CharacterSet) (letter b : Body) (past : List Body) → type_of set b ≡ 20 → Holding set letter past → Between set letter b (b ∷ past)
unfolding follows
started set letter b past e h =
    let around = bundle-begun set letter b past e h.here in
    let behind-20 : Allow set (25 ∷ 31 ∷ 61 ∷ []) (b ∷ past) = allow-at set (25 ∷ 31 ∷ 61 ∷ []) around.inside_is e refl in
    record {
      around = around;
      settled = settled_on set past b 20 e refl refl h.settled;
      viewed = none-owed set (b ∷ past) (ap is_check_or_return (step set 0 next_holder past b 20 e));
      next = λ a same. behind-20.may (layout_in a).type_number (first-item a);
    }

-- behind a view directly in a cash letter
views-end : Ends false (20 ∷ 61 ∷ 90 ∷ [])
unfolding follows
views-end = record { behind-50 = refl; behind-52 = refl; behind-54 = refl }

module _ (End : List Body → Type 0) (set : CharacterSet) (letter : Body) where
  bundle-good : (b : Bundle) (past rest : List Body) → SoundBundle set letter b → Holding set letter past
      → (Holding set letter (after_bundle past b) → GoodTo End set (after_bundle past b) rest) → GoodTo End set past (bundle_then b rest)
  unfolding follows
  bundle-good b past rest sound h on =
      let typed = bundle-typed set letter b sound in
      let f = bundle-figures set b past typed in
      let before = after_items (b.header ∷ past) b.items in
      let c = b.control in
      let here = behind-content set letter (bundled b) past typed h.here in
      let none_yet = step set 0 next_present past b.header 20 typed.header in
      let totals : BundleTotals set before c =
      record {
        debit-count = sound.debit-count ∙ sym f.debits;
        debit-cents = sound.debit-cents ∙ sym f.debit;
        valid = rw f.valid sound.valid;
        view-count = sound.view-count ∙ sym f.views;
        credit-count = sound.credit-count ∙ sym f.credits;
        credit-cents = sound.credit-cents ∙ sym f.credit;
      } in
      record {
        first =
            made-20 set past b.header sound.header (h.next.may 20 refl) h.settled
            (λ e. sound.allowed (sym (indicator-is set past h.here.letter-is) ∙ e));
        rest =
            items-good End set letter b.header b.items (b.header ∷ past) (c ∷ rest) sound.items (rw none_yet sound.one-item-type)
            (started set letter b.header past typed.header h) (λ e. absurd (omega (arith, sound.filled, e)))
            (λ w ends. record {
              first = made-70 set before c sound.control ends w.settled w.viewed totals;
              rest =
                  on
                  (record {
                    here = here;
                    settled = settled_on set before c 70 typed.control refl refl w.settled;
                    unheld = ap is_check_or_return (step set 0 next_holder before c 70 typed.control);
                    next = allow-at set (20 ∷ 61 ∷ 90 ∷ []) here.outside typed.control refl;
                  });
            });
      }

  credit-good : (c : Credit) (past rest : List Body) → SoundCredit set letter c → Holding set letter past
      → (Holding set letter (after_credit past c) → GoodTo End set (after_credit past c) rest) → GoodTo End set past (credit_then c rest)
  unfolding follows
  credit-good c past rest sound h on =
      let typed = credit-typed set letter c sound in
      let new = fresh set of_credit c.detail past typed.detail in
      let within = in-letter set letter (newest set (is 20) past) c past typed (around-credit set letter past h.here) in
      record {
        first =
            made-item set of_credit c.detail past sound.detail (h.next.may 61 refl) h.settled (none-owed set past h.unheld) refl;
        rest =
            views-good End set false (20 ∷ 61 ∷ 90 ∷ []) views-end letter (in_letter letter c) (c.detail ∷ past) c.views rest sound.views within
            sound.unseen (omega (arith, new.stated-is)) (allow-at set (50 ∷ 20 ∷ 61 ∷ 90 ∷ []) within.inside_is typed.detail refl)
            (λ settled ends. on
            (record {
              here = behind-content set letter (direct c) past typed h.here;
              settled = settled;
              unheld = (item-figures set (as_item c) past (item_of set c typed)).demands;
              next = allow-rest set ends;
            }));
      }

  pub content-good : (c : Content) (past rest : List Body) → SoundContent set letter c → Holding set letter past
      → (Holding set letter (after_content past c) → GoodTo End set (after_content past c) rest) → GoodTo End set past (content_then c rest)
  content-good (bundled b) past rest sound h on = bundle-good b past rest sound h on
  content-good (direct c) past rest sound h on = credit-good c past rest sound h on

  pub contents-good : (cs : List Content) (past rest : List Body) → All (SoundContent set letter) cs → Holding set letter past
      → (Holding set letter (after_contents past cs) → GoodTo End set (after_contents past cs) rest) → GoodTo End set past (contents_then cs rest)
  contents-good [] past rest sound h on = on h
  contents-good (c ∷ cs) past rest sound h on =
      content-good c past (contents_then cs rest) sound.0 h (λ h₁. contents-good cs (after_content past c) rest sound.1 h₁ on)
