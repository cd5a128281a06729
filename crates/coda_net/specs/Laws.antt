-- What holds of the letters that wait, in words of which are lost and which are trimmed.
use Rattle.std.specs.Prelude.{◌≡◌, ◌<◌, ◌≤◌, ◌+◌, ℕ, Bool, true, false, not, List, [], ◌∷◌, ◌++◌, length, drop, Some, None, option_map, if◌then◌else◌}
use Rattle.std.specs.List.{filter}
use Rattle.std.specs.Map.{keys_of, values_of}
use Rattle.coda_net.specs.declared.letter.Letter.{Letter}
use Rattle.coda_net.specs.Pool.{Letters, lossy_count, lossy_bytes, are_within, lost_for, posted_to, without, cut_to, trimmed, found, letter_at, AreRising, AreKept}

-- whether a letter may be lost for the limits
abbrev pub may_be_lost : ℕ × Letter → Bool
may_be_lost l = l.1.lossy

-- whether letters are within the limits
abbrev pub fit : Letters → Bool
fit letters = are_within (lossy_count (values_of letters)) (lossy_bytes (values_of letters))

-- A new letter waits behind all others. Of the letters that may be lost the oldest go, as few as make the rest and the new
-- one fit, and all others wait as before. A letter that may not be lost puts none out.
pub record PostsLoseTheOldest : Type 0 where
  pub oldest_go : (letters : Letters) (number : ℕ) (letter : Letter)
      → filter may_be_lost (posted_to letters number letter) ≡ drop (lost_for letter letters) (filter may_be_lost letters) ++ (if letter.lossy then (number, letter) ∷ [] else [])
  pub others_wait : (letters : Letters) (number : ℕ) (letter : Letter)
      → filter (λ l. not (may_be_lost l)) (posted_to letters number letter) ≡ filter (λ l. not (may_be_lost l)) letters ++ (if letter.lossy then [] else (number, letter) ∷ [])
  pub rest_fits : (letters : Letters) (number : ℕ) (letter : Letter) → fit letters ≡ true → fit ((number, letter) ∷ []) ≡ true → fit (posted_to letters number letter) ≡ true
  pub no_fewer : (letters : Letters) (number : ℕ) (letter : Letter) (fewer : ℕ) → fewer < lost_for letter letters → fit (drop fewer (filter may_be_lost letters) ++ (number, letter) ∷ []) ≡ false

-- a letter from the client to the server with these bytes
pub record IsSent (client server : ℕ) (bytes : List ℕ) (letter : Letter) : Type 0 where
  pub to_server : letter.to_server ≡ true
  pub client_is : letter.client ≡ client
  pub server_is : letter.server ≡ server
  pub bytes_are : letter.bytes ≡ bytes

-- What is found is the least number of a letter that waits, from the client to the server and with these bytes; where none
-- is found, none waits.
pub record FindsNameTheLeast : Type 0 where
  pub there : (letters : Letters) (client server : ℕ) (bytes : List ℕ) (number : ℕ) → AreRising 0 letters → found letters client server bytes ≡ Some number
      → (letter : Letter) × (letter_at letters number ≡ Some letter) × IsSent client server bytes letter
  pub least : (letters : Letters) (client server : ℕ) (bytes : List ℕ) (number other : ℕ) (letter : Letter) → AreRising 0 letters → found letters client server bytes ≡ Some number
      → letter_at letters other ≡ Some letter → IsSent client server bytes letter → number ≤ other
  pub none : (letters : Letters) (client server : ℕ) (bytes : List ℕ) (other : ℕ) (letter : Letter) → found letters client server bytes ≡ None
      → letter_at letters other ≡ Some letter → IsSent client server bytes letter → ⊥

-- A letter waits under its number until it is lost: a new one waits under the number that it was given; no post changes a
-- letter that waits or brings an older one back, and one that may not be lost stays; a lost letter is gone, and no other is.
pub record LettersWaitUntilLost : Type 0 where
  pub waits : (letters : Letters) (posted : ℕ) (letter : Letter) → AreKept letters posted → letter_at (posted_to letters (posted + 1) letter) (posted + 1) ≡ Some letter
  pub is_itself : (letters : Letters) (posted number : ℕ) (letter other : Letter) → AreKept letters posted → number ≤ posted
      → letter_at (posted_to letters (posted + 1) letter) number ≡ Some other → letter_at letters number ≡ Some other
  pub stays : (letters : Letters) (posted number : ℕ) (letter other : Letter) → AreKept letters posted → other.lossy ≡ false
      → letter_at letters number ≡ Some other → letter_at (posted_to letters (posted + 1) letter) number ≡ Some other
  pub gone : (letters : Letters) (number : ℕ) → AreRising 0 letters → letter_at (without letters number) number ≡ None
  pub others_stay : (letters : Letters) (number other : ℕ) → (other ≡ number → ⊥) → letter_at (without letters number) other ≡ letter_at letters other

-- what is left of a letter that keeps so many bytes: that many, which the whole begins with, between the same ends and as lossy
pub record IsFrontOf (whole : Letter) (most : ℕ) (front : Letter) : Type 0 where
  pub behind : List ℕ
  pub begins : whole.bytes ≡ front.bytes ++ behind
  pub many : length front.bytes ≡ most
  pub client_is : front.client ≡ whole.client
  pub server_is : front.server ≡ whole.server
  pub to_server_is : front.to_server ≡ whole.to_server
  pub lossy_is : front.lossy ≡ whole.lossy

-- A letter that is trimmed has its first bytes alone, as many as it was trimmed to, and waits on under its number and in its place; all
-- others are as they were. As many letters count for the limits as before, and what was within them is.
pub record TrimmedLettersWait : Type 0 where
  pub keeps_front : (letters : Letters) (number most : ℕ) (whole : Letter) → letter_at letters number ≡ Some whole → most ≤ length whole.bytes
      → (front : Letter) × (letter_at (trimmed letters number most) number ≡ Some front) × IsFrontOf whole most front
  pub is_cut : (letters : Letters) (number most : ℕ) → letter_at (trimmed letters number most) number ≡ option_map (cut_to most) (letter_at letters number)
  pub others_stay : (letters : Letters) (number other most : ℕ) → (other ≡ number → ⊥) → letter_at (trimmed letters number most) other ≡ letter_at letters other
  pub numbers_stay : (letters : Letters) (number most : ℕ) → keys_of (trimmed letters number most) ≡ keys_of letters
  pub counts : (letters : Letters) (number most : ℕ) → lossy_count (values_of (trimmed letters number most)) ≡ lossy_count (values_of letters)
  pub still_fits : (letters : Letters) (number most : ℕ) → fit letters ≡ true → fit (trimmed letters number most) ≡ true
