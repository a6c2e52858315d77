-- Two bits are unlike, or alike: what the algebra of bits asks of that, case by case.
use Rattle.std.specs.Prelude.{◌≡◌, refl, Bool, true, false, not}

abbrev pub unlike : Bool → Bool → Bool
unlike true b = not b
unlike false b = b

pub unlike_comm : (x y : Bool) → unlike x y ≡ unlike y x
unlike_comm true true = refl
unlike_comm true false = refl
unlike_comm false true = refl
unlike_comm false false = refl

pub unlike_assoc : (x y z : Bool) → unlike (unlike x y) z ≡ unlike x (unlike y z)
unlike_assoc true true true = refl
unlike_assoc true true false = refl
unlike_assoc true false z = refl
unlike_assoc false y z = refl

pub unlike_none : (x : Bool) → unlike x false ≡ x
unlike_none true = refl
unlike_none false = refl

pub unlike_self : (x : Bool) → unlike x x ≡ false
unlike_self true = refl
unlike_self false = refl
