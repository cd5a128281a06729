-- What a cursor shows of what is left of a line.
use Rattle.std.specs.Prelude.{◌≡◌, ◌<◌, ◌^◌, ℕ}
use Rattle.coda_text.specs.declared.cursor.Head.{Head}
use Rattle.coda_text.specs.declared.cursor.Head.TheVariants.{End, Bad, Word}
use Rattle.coda_text.specs.Words.{Split, ended, broken, word, rest_of}

-- what is left is the line's end, what is no word, or a word and the rest
abbrev pub Shows : Split → Head → Type 0
Shows split (End at) = split ≡ ended at
Shows split (Bad at) = (upto : ℕ) × (split ≡ broken at upto)
Shows split (Word at text) = split ≡ word at text.now (rest_of split)

-- its column, counted from 1, is below 2^32
abbrev pub FitsColumn : Head → Type 0
FitsColumn (End at) = at < 2 ^ 63
FitsColumn (Bad at) = at < 2 ^ 63
FitsColumn (Word at text) = at < 2 ^ 63
