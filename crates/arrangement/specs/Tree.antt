-- What a file consists of (clause 4 and Figures 1 and 2): each record is the list of its bytes.
use Rattle.std.specs.Prelude.{List}
use Rattle.std.proofs.Math.Option.{Option}
use Rattle.file_as_records.specs.Framed.{Body}

-- a view: its 50, its 52, and perhaps a 54
pub record View : Type 0 where
  pub detail : Body
  pub image : Body
  pub analysis : Option Body

-- the addenda of an item: of a 25, its 26s, perhaps a 27, its 28s; of a 31, its 32s, a 33, perhaps a 34, its 35s; a 61 has none
pub data Addenda : Type 0 where
  of_check : List Body → Option Body → List Body → Addenda
  of_return : List Body → Body → Option Body → List Body → Addenda
  of_credit : Addenda

-- an item: its 25, 31 or 61, its addenda, its views
pub record Item : Type 0 where
  pub detail : Body
  pub addenda : Addenda
  pub views : List View

-- a bundle: its 20, its items, its 70
pub record Bundle : Type 0 where
  pub header : Body
  pub items : List Item
  pub control : Body

-- a credit directly in a cash letter: its 61, its views
pub record Credit : Type 0 where
  pub detail : Body
  pub views : List View

-- what a cash letter holds, in its order: bundles, and credits between them
pub data Content : Type 0 where
  bundled : Bundle → Content
  direct : Credit → Content

-- a cash letter: its 10, what it holds, its 90
pub record CashLetter : Type 0 where
  pub header : Body
  pub contents : List Content
  pub control : Body

-- a file: its 01, its cash letters, its 99
pub record File : Type 0 where
  pub header : Body
  pub letters : List CashLetter
  pub control : Body
