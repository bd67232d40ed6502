-- The formats that the standard gives a field: date and time. Those of a routing number stand in RoutingForms.antt.
use Rattle.std.specs.Prelude.{ℕ, Bool, ◌&&◌, List, leb, eqb, length, take, drop}
use Rattle.text.specs.declared.character_set.CharacterSet.{CharacterSet}
use Rattle.text.specs.Ranges.{within}
use Rattle.text.specs.Characters.{is_numeric}
use Rattle.text.specs.DataTypes.{every}
use Rattle.text.specs.Number.{number}

-- YYYYMMDD (document 01): "year 1993 to 9999, month 01 to 12, day 01 to 31, nothing more"
unfoldable pub is_date : CharacterSet → List ℕ → Bool
is_date set xs =
    eqb (length xs) 8
    && (every (is_numeric set) xs
    && (within 1993 9999 (number set (take 4 xs))
    && (within 1 12 (number set (take 2 (drop 4 xs))) && within 1 31 (number set (take 2 (drop 6 xs))))))

-- hhmm: hours 00 to 23, minutes 00 to 59 (clause 7.7)
unfoldable pub is_hours_minutes : CharacterSet → List ℕ → Bool
is_hours_minutes set xs =
    eqb (length xs) 4
    && (every (is_numeric set) xs && (leb (number set (take 2 xs)) 23 && leb (number set (take 2 (drop 2 xs))) 59))

-- hhmmss: the same, then seconds 00 to 59 (clause 12.4)
unfoldable pub is_hours_minutes_seconds : CharacterSet → List ℕ → Bool
is_hours_minutes_seconds set xs =
    eqb (length xs) 6
    && (is_hours_minutes set (take 4 xs) && (every (is_numeric set) (take 2 (drop 4 xs)) && leb (number set (take 2 (drop 4 xs))) 59))
