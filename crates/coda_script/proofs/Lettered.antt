-- The word of some rights.
use Rattle.std.proofs.Common.{◌≡◌, ℕ, Bool, true, false, List, Some, refl}
use Rattle.std.specs.Prelude.{codes}
use Rattle.coda_text.proofs.Joining.{is_bare_word}
use Rattle.coda_script.specs.declared.line.Rights.{Rights}
use Rattle.coda_script.specs.Slots.{rights_in}

-- a bare word that is these rights
abbrev IsWordOf : Rights → Type 0
IsWordOf rights = (word : List ℕ) × (is_bare_word word ≡ true) × (rights_in word ≡ Some rights)

lettered : (r l i d w : Bool) → IsWordOf (record { read = r; lookup = l; insert = i; delete = d; write = w })
lettered true true true true true = (codes "rlidw", refl, refl)
lettered true true true true false = (codes "rlid", refl, refl)
lettered true true true false true = (codes "rliw", refl, refl)
lettered true true true false false = (codes "rli", refl, refl)
lettered true true false true true = (codes "rldw", refl, refl)
lettered true true false true false = (codes "rld", refl, refl)
lettered true true false false true = (codes "rlw", refl, refl)
lettered true true false false false = (codes "rl", refl, refl)
lettered true false true true true = (codes "ridw", refl, refl)
lettered true false true true false = (codes "rid", refl, refl)
lettered true false true false true = (codes "riw", refl, refl)
lettered true false true false false = (codes "ri", refl, refl)
lettered true false false true true = (codes "rdw", refl, refl)
lettered true false false true false = (codes "rd", refl, refl)
lettered true false false false true = (codes "rw", refl, refl)
lettered true false false false false = (codes "r", refl, refl)
lettered false true true true true = (codes "lidw", refl, refl)
lettered false true true true false = (codes "lid", refl, refl)
lettered false true true false true = (codes "liw", refl, refl)
lettered false true true false false = (codes "li", refl, refl)
lettered false true false true true = (codes "ldw", refl, refl)
lettered false true false true false = (codes "ld", refl, refl)
lettered false true false false true = (codes "lw", refl, refl)
lettered false true false false false = (codes "l", refl, refl)
lettered false false true true true = (codes "idw", refl, refl)
lettered false false true true false = (codes "id", refl, refl)
lettered false false true false true = (codes "iw", refl, refl)
lettered false false true false false = (codes "i", refl, refl)
lettered false false false true true = (codes "dw", refl, refl)
lettered false false false true false = (codes "d", refl, refl)
lettered false false false false true = (codes "w", refl, refl)
lettered false false false false false = (codes "-", refl, refl)

pub rights_again : (rights : Rights) → IsWordOf rights
rights_again rights = lettered rights.read rights.lookup rights.insert rights.delete rights.write
