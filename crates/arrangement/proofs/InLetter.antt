-- What the records before a part of a cash letter come to: its header, and whether a bundle is open. Assumes nothing.
use mathlib.Core.Bool.{true, false}
use mathlib.Core.Path.{◌≡◌, refl, ◌∙◌}
use mathlib.Core.List.{List, [], ◌∷◌}
use Rattle.text.specs.declared.character_set.CharacterSet.{CharacterSet}
use Rattle.judge.specs.Alone.{type_of}
use Rattle.file_as_records.specs.Framed.{Body}
use Rattle.file_as_records.proofs.Figures.{inside_in, is, newest}
use Rattle.arrangement.specs.Tree.{Content, bundled, direct}
use Rattle.arrangement.specs.Sound.{All}
use Rattle.arrangement.specs.TypesInPlace.{TypedContent}
use Rattle.arrangement.proofs.After.{after_items, after_content, after_contents, as_item}
use Rattle.arrangement.proofs.Quiet.{quiet-bundle, item_of, step}
use Rattle.arrangement.proofs.InItem.{Around, next_header, next_inside, next_letter}
use Rattle.arrangement.proofs.ItemFigures.{around-item, letter-stays}

-- directly in a cash letter
pub record InLetter (set : CharacterSet) (letter : Body) (past : List Body) : Type 0 where
  pub outside : inside_in set past ≡ false
  pub letter-is : newest set (is 10) past ≡ letter

pub letter-begun : (set : CharacterSet) (b : Body) (past : List Body) → type_of set b ≡ 10 → inside_in set past ≡ false → InLetter set b (b ∷ past)
letter-begun set b past k outside =
    record { outside = step set false next_inside past b 10 k ∙ outside; letter-is = step set [] next_letter past b 10 k }

module _ (set : CharacterSet) (letter : Body) where
  -- at a 20
  pub bundle-begun : (b : Body) (past : List Body) → type_of set b ≡ 20 → InLetter set letter past → Around set true letter b (b ∷ past)
  bundle-begun b past k h =
      record {
        inside_is = step set false next_inside past b 20 k;
        letter-is = step set [] next_letter past b 20 k ∙ h.letter-is;
        header_is = step set [] next_header past b 20 k;
      }

  -- at a 61
  pub around-credit : (past : List Body) → InLetter set letter past → Around set false letter (newest set (is 20) past) past
  around-credit past h = record { inside_is = h.outside; letter-is = h.letter-is; header_is = refl }

  -- and behind what it holds
  pub behind-content : (c : Content) (past : List Body) → TypedContent set c → InLetter set letter past → InLetter set letter (after_content past c)
  behind-content (bundled b) past k h =
      record {
        outside = step set false next_inside (after_items (b.header ∷ past) b.items) b.control 70 k.control;
        letter-is = quiet-bundle set [] next_letter letter-stays past b k ∙ h.letter-is;
      }
  behind-content (direct c) past k h =
      let a = around-item set false letter (newest set (is 20) past) (as_item c) past (item_of set c k) (around-credit past h) in
      record { outside = a.inside_is; letter-is = a.letter-is }

  pub behind-contents : (cs : List Content) (past : List Body) → All (TypedContent set) cs → InLetter set letter past
      → InLetter set letter (after_contents past cs)
  behind-contents [] past k h = h
  behind-contents (c ∷ cs) past k h = behind-contents cs (after_content past c) k.1 (behind-content c past k.0 h)
