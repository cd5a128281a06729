-- Generated scripts, as lists of lines.
use Rattle.std.specs.Prelude.{◌≡◌, ◌≤◌, ℕ, zero, suc, ◌+◌, ◌-◌, ◌*◌, ◌/◌, ◌%◌, ◌^◌, nat_eq, if◌then◌else◌, List, [], ◌∷◌, ◌++◌, length, take, codes, slice_index_or}
use Rattle.std.specs.List.{flat_map}
use Rattle.std.specs.Fmt.{decimal}

-- the lines that make a volume, two clients and their links
abbrev pub opening : List (List ℕ)
opening = codes "volume 7 on 1 2" ∷ codes "client 1 cache 4096" ∷ codes "client 2 cache 4096" ∷ codes "link 1 1 strong" ∷ codes "link 2 1 strong" ∷ []

-- the number after x
abbrev pub next_number : ℕ → ℕ
next_number x = (x * 6364136223846793005 + 1442695040888963407) % 2 ^ 64

-- what a line is drawn from: the upper bits of its number
abbrev pub drawn : ℕ → ℕ
drawn x = x / 2 ^ 33

-- a client's directory and its file of a number
abbrev pub directory : ℕ → List ℕ
directory n = codes " 7 /d" ++ decimal n

abbrev pub file : ℕ → List ℕ
file n = codes " 7 /f" ++ decimal n

-- one in four gives the client's log up, and the others set a mode
abbrev pub giveup_or_mode : ℕ → ℕ → ℕ → List ℕ
giveup_or_mode c n r = if nat_eq (r / 1024 % 4) 0 then codes "giveup " ++ decimal c ++ codes " 7" else codes "setattr " ++ decimal c ++ file n ++ codes " mode 600"

-- the lines of the eight kinds, of a client and an object
abbrev pub kinds : ℕ → ℕ → ℕ → List (List ℕ)
kinds c n r =
    (codes "mkdir " ++ decimal c ++ directory n)
    ∷ (codes "create " ++ decimal c ++ file n)
    ∷ (codes "store " ++ decimal c ++ file n ++ codes " fill " ++ decimal (16 * n) ++ codes " 65")
    ∷ (codes "remove " ++ decimal c ++ file n)
    ∷ (codes "rmdir " ++ decimal c ++ directory n)
    ∷ (codes "rename " ++ decimal c ++ file n ++ codes " /f" ++ decimal ((n + 1) % 64))
    ∷ (codes "drain " ++ decimal c ++ codes " 7 1 window 0")
    ∷ giveup_or_mode c n r
    ∷ []

-- the line that is drawn from r
abbrev pub line_of : ℕ → List ℕ
line_of r = slice_index_or (kinds (1 + r % 2) (r / 16 % 64) r) (r / 2 % 8) []

-- so many lines, one for each number after x
abbrev pub generated : ℕ → ℕ → List (List ℕ)
generated zero x = []
generated (suc count) x = line_of (drawn (next_number x)) ∷ generated count (next_number x)

-- the lines of a script: the opening ones, and then one for each number after the start
abbrev pub script_lines : ℕ → ℕ → List (List ℕ)
script_lines start lines = take lines opening ++ generated (lines - length opening) start

-- each line ends with a newline
abbrev pub with_newline : List ℕ → List ℕ
with_newline line = line ++ 10 ∷ []

abbrev pub lines_text : List (List ℕ) → List ℕ
lines_text lines = flat_map with_newline lines

-- the lines of a shorter script are those that a longer one begins with, and a script has as many as were asked for
pub record LongerScriptsBeginWithShorterOnes : Type 0 where
  pub begins : (start lines more : ℕ) → lines ≤ more → take lines (script_lines start more) ≡ script_lines start lines
  pub all : (start lines : ℕ) → length (script_lines start lines) ≡ lines
