-- What a search and an addition, plain or by the index, ask of their callers and tell them. Contract plumbing. Assumes nothing.
use Rattle.std.specs.Prelude.{ℕ, ◌≡◌, Bool, cond, List, length}
use Rattle.register.specs.Register.{key_width, stands, add}
use Rattle.register.specs.Room.{Formed, Spare}
use Rattle.slots.specs.Slots.{End}
use Rattle.slots.specs.Asked.{end_of}
use Rattle.index.specs.Index.{index_length, index_of, end_in}
use Rattle.index.specs.Searches.{slots_read}
use Rattle.index.specs.declared.Sought.{Sought}

-- the index that belongs beside a register: its own where it is searched by one, else whatever was lent
abbrev pub index_by : Bool → List ℕ → List ℕ → List ℕ
index_by indexed index register = cond indexed (index_of register) index

-- the plain search ends at no slot and reads none
abbrev pub nowhere : End
nowhere = record { place = 0; name = 0; read = 0 }

-- a register that is well formed, has so many places left, and stands beside its index
pub record Ready (indexed : Bool) (register index : List ℕ) (more : ℕ) : Type 0 where
  pub spare : Spare register more
  pub kept : index ≡ index_by indexed index register

-- a search tells whether the key stands in the register, and one by the index how it ended
pub record SoughtTold (indexed : Bool) (register key : List ℕ) (sought : Sought) : Type 0 where
  pub there : sought.there ≡ stands register key
  pub ended : end_of sought.ended ≡ cond indexed (end_in register key) nowhere

-- the key was sought just before, and there is room for it
pub record EnterReady (indexed : Bool) (register index key : List ℕ) (sought : Sought) : Type 0 where
  pub ready : Ready indexed register index 1
  pub wide : length key ≡ key_width
  pub told : SoughtTold indexed register key sought

pub record Entered (indexed : Bool) (register index key register' index' : List ℕ) : Type 0 where
  pub recorded : register' ≡ add register key
  pub kept : index' ≡ index_by indexed index (add register key)

-- a key that was not sought just before: where an index is kept it is sought again
pub record AnewReady (indexed : Bool) (register index key : List ℕ) : Type 0 where
  pub ready : Ready indexed register index 1
  pub wide : length key ≡ key_width

pub record EnteredAnew (indexed : Bool) (register index key register' index' : List ℕ) (slots : ℕ) : Type 0 where
  pub entered : Entered indexed register index key register' index'
  pub read : slots ≡ slots_read indexed (record { register = register; key = key })

-- a register and an index of the length that it asks for
pub record Measured (register index : List ℕ) : Type 0 where
  pub formed : Formed register
  pub long : length index ≡ index_length register
