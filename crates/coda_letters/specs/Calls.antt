-- What the calls answer, and which letters they leave.
use Rattle.std.specs.Prelude.{◌≡◌, ℕ, ◌+◌, ◌⊎◌, Option, Some, None, Result, Ok, Err, [], ◌∷◌, ◌++◌, List, if◌then◌else◌}
use Rattle.coda_wire.specs.declared.message.Message.{Message}
use Rattle.coda_fid.specs.declared.fid.Fid.{Fid}
use Rattle.coda_net.specs.declared.letter.Letter.{Letter}
use Rattle.coda_net.specs.Pool.{Pool, is_down, link_of}
use Rattle.coda_letters.specs.Sent.{Sent, BreakSent, message_of, client_of, server_of, letter_of, Waiting, AreLetters, sent_at, without, with_sent, number_of}
use Rattle.coda_letters.specs.declared.fault.LetterFault.{LetterFault}
use Rattle.coda_letters.specs.declared.fault.LetterFault.TheVariants.{NoMessage, LinkDown, Memory}

-- something was posted: under the next number, behind what waited and wasn't put out
pub record IsPosted (waiting : Waiting) (sent : Sent) (old : Pool) (number : ℕ) (new : Pool) : Type 0 where
  pub next : number ≡ old.posted + 1
  pub posted : new.posted ≡ number
  pub left : AreLetters (with_sent number sent waiting) new

-- something was sent: the letter that says it already is named, and else it was posted
abbrev pub IsSentAs : Option ℕ → Waiting → Sent → Pool → ℕ → Pool → Type 0
IsSentAs (Some first) waiting sent old number new = (number ≡ first) × (new ≡ old)
IsSentAs None waiting sent old number new = IsPosted waiting sent old number new

abbrev pub IsSent : Waiting → Sent → Pool → ℕ → Pool → Type 0
IsSent waiting sent old number new = IsSentAs (number_of sent waiting) waiting sent old number new

-- a break was posted: under the next number, behind all that waited, of which none went
pub record IsBreakPosted (server client volume : ℕ) (fids : List Fid) (old : Pool) (number : ℕ) (new : Pool) : Type 0 where
  pub next : number ≡ old.posted + 1
  pub posted : new.posted ≡ number
  pub letters : new.letters ≡ old.letters ++ (number, letter_of (BreakSent server client volume fids)) ∷ []

-- the letter of a number was delivered: it is there, its link is up, and this is what it says; or there was no memory
abbrev pub DeliversTo : Pool → ℕ → Option Sent → Result Message LetterFault → Type 0
DeliversTo net number None answer = answer ≡ Err (NoMessage number)
DeliversTo net number (Some sent) answer = answer ≡ (if is_down (link_of net (client_of sent) (server_of sent)) then Err LinkDown else Ok (message_of sent))

abbrev pub Delivers : Waiting → Pool → ℕ → Result Message LetterFault → Type 0
Delivers waiting net number answer = (answer ≡ Err Memory) ⊎ DeliversTo net number (sent_at number waiting) answer

-- the letter of a number was lost and handed over, or none is there
abbrev pub LosesTo : Option Sent → Waiting → ℕ → Result Letter LetterFault → Pool → Type 0
LosesTo None waiting number answer new = (answer ≡ Err (NoMessage number)) × AreLetters waiting new
LosesTo (Some sent) waiting number answer new = (answer ≡ Ok (letter_of sent)) × AreLetters (without number waiting) new

abbrev pub Loses : Waiting → ℕ → Result Letter LetterFault → Pool → Type 0
Loses waiting number answer new = LosesTo (sent_at number waiting) waiting number answer new
