-- A line is its gaps and words in order: `laid`, by the steps of a scan.
use Rattle.std.proofs.Common.{◌≡◌, ℕ, suc, ◌+◌, true, ◌⊎◌, inl, inr, List, [], ◌∷◌, ◌++◌, length, Option, Some, None, refl, ap, subst, ◌∙◌, append_assoc, length-append, add-zero, arith}
use Rattle.std.specs.Prelude.{◌&&◌}
use Rattle.std.specs.List.{AllByRecursion}
use Rattle.std.proofs.lemmas.List.{append-nil}
use Rattle.coda_text.specs.declared.words.Part.{Part}
use Rattle.coda_text.specs.Words.{Word, gap, under_way, Place, scan, is_separator, opens, goes_on, may_end, broken, word}
use Rattle.coda_text.specs.Laid.{is_apart, AreLaid, IsLeft}
use Rattle.coda_text.specs.Pieces.{IsBareText, IsQuotedText}
use Rattle.coda_text.proofs.OneWord.{runs, cases_bool, and_left, and_right}
use Rattle.coda_text.proofs.Spelled.{ran_spelled}

-- a word that is bare, or some pieces between quotes
abbrev pub IsSpelled : Word → Type 0
IsSpelled w = IsBareText w.text ⊎ IsQuotedText w.text

-- the bytes from a place between words on are laid out as they are split, and each word is spelled
abbrev Laid : ℕ → List ℕ → Type 0
Laid at bytes =
    (left : List ℕ) × AreLaid at (scan gap at bytes).words bytes left × IsLeft (at + length bytes) (scan gap at bytes) left × AllByRecursion IsSpelled (scan gap at bytes).words

-- a word that is under way: it is none, or it ends behind some bytes, and what is behind them is laid out
pub record Ended (start at : ℕ) (text : List ℕ) (part : Part) (bytes : List ℕ) : Type 0 where
  pub taken : List ℕ
  pub rest : List ℕ
  pub parts : bytes ≡ taken ++ rest
  pub apart : is_apart rest ≡ true
  pub last : Part
  pub ran : runs part taken ≡ Some last
  pub over : may_end last ≡ true
  pub found : scan (under_way start text part) at bytes ≡ word start (text ++ taken) (scan gap (at + length taken) rest)
  pub laid : Laid (at + length taken) rest

abbrev Under : ℕ → ℕ → List ℕ → Part → List ℕ → Type 0
Under start at text part bytes =
    ((b : ℕ) × (scan (under_way start text part) at bytes ≡ broken start b)) ⊎ Ended start at text part bytes

abbrev LaidFrom : Place → ℕ → List ℕ → Type 0
LaidFrom gap at bytes = Laid at bytes
LaidFrom (under_way start text part) at bytes = Under start at text part bytes

-- one more separator in front
wider : (at b : ℕ) (ws : List Word) (bytes left : List ℕ) → is_separator b ≡ true → AreLaid (at + 1) ws bytes left
    → (end : ℕ) (breaks : Option ℕ) → IsLeft (at + 1 + length bytes) (record { words = ws; end = end; breaks = breaks }) left
    → (left' : List ℕ) × AreLaid at ws (b ∷ bytes) left' × IsLeft (at + length (b ∷ bytes)) (record { words = ws; end = end; breaks = breaks }) left'
wider at b [] bytes left sep l end breaks h =
    (b ∷ left, ap (λ (x : List ℕ). b ∷ x) l, (b ∷ h.0, h.1, ap (λ (x : List ℕ). b ∷ x) h.2, rw sep h.3, (let k : at + 1 + length bytes ≡ at + suc (length bytes) = omega arith in h.4 ∙ k), h.5))
wider at b (w ∷ ws) bytes left sep l end breaks h =
    let place : w.at ≡ at + suc (length l.0) = (let k : at + 1 + length l.0 ≡ at + suc (length l.0) = omega arith in l.4 ∙ k) in
    (left, (b ∷ l.0, l.1, ap (λ (x : List ℕ). b ∷ x) l.2, rw sep l.3, place, l.5, l.6), (h.0, h.1, h.2, h.3, (let k : at + 1 + length bytes ≡ at + suc (length bytes) = omega arith in h.4 ∙ k), h.5))

with_words : (at b : ℕ) (bs : List ℕ) (ws : List Word) (end : ℕ) (breaks : Option ℕ)
    → (left : List ℕ) × AreLaid at ws (b ∷ bs) left × IsLeft (at + length (b ∷ bs)) (record { words = ws; end = end; breaks = breaks }) left → AllByRecursion IsSpelled ws
    → (left : List ℕ) × AreLaid at ws (b ∷ bs) left × IsLeft (at + length (b ∷ bs)) (record { words = ws; end = end; breaks = breaks }) left × AllByRecursion IsSpelled ws
with_words at b bs ws end breaks l all = (l.0, l.1, l.2, all)

cases_option : (o : Option Part) → (o ≡ None) ⊎ ((part : Part) × (o ≡ Some part))
cases_option None = inl refl
cases_option (Some part) = inr (part, refl)

-- no word, as the split of a line
none_laid : (at : ℕ) (bytes : List ℕ) (b : ℕ) → scan gap at bytes ≡ broken at b → Laid at bytes
none_laid at bytes b e = rw e (bytes, refl, ([], bytes, refl, refl, refl, λ none. absurd (let n = none in cc)), tt)

rest_length : (at : ℕ) (bs taken rest : List ℕ) → bs ≡ taken ++ rest → at + 1 + length taken + length rest ≡ at + suc (length bs)
rest_length at bs taken rest p =
    let e : length bs ≡ length taken + length rest = ap length p ∙ length-append taken rest in
    omega (arith, e)

-- a word that begins there, as the split of a line
word_laid : (at b : ℕ) (part : Part) (bs : List ℕ) → opens b ≡ Some part → scan gap at (b ∷ bs) ≡ scan (under_way at (b ∷ []) part) (at + 1) bs → Under at (at + 1) (b ∷ []) part bs → Laid at (b ∷ bs)
word_laid at b part bs o e (inl u) = none_laid at (b ∷ bs) u.0 (e ∙ u.1)
word_laid at b part bs o e (inr u) =
    let l = u.laid in
    let k : at + 1 + length u.taken ≡ at + suc (length u.taken) = omega arith in
    let laid : AreLaid (at + suc (length u.taken)) (scan gap (at + 1 + length u.taken) u.rest).words u.rest l.0 = subst (λ (n : ℕ). AreLaid n (scan gap (at + 1 + length u.taken) u.rest).words u.rest l.0) k l.1 in
    let bytes : b ∷ bs ≡ (b ∷ u.taken) ++ u.rest = ap (λ (x : List ℕ). b ∷ x) u.parts in
    let z : at ≡ at + 0 = omega arith in
    rw (e, u.found) (l.0, ([], u.rest, bytes, refl, z, u.apart, laid), (l.2.0, l.2.1, l.2.2, l.2.3, l.2.4 ∙ rest_length at bs u.taken u.rest u.parts, l.2.5), (ran_spelled b u.taken part u.last o u.ran u.over, l.3))

ran_on : (part next : Part) (b : ℕ) (bs : List ℕ) (last : Part) → goes_on part b ≡ Some next → runs next bs ≡ Some last → runs part (b ∷ bs) ≡ Some last
ran_on part next b bs last g r = rw g r

-- one step into a word that is under way, whose rest is known
under_next : (start at b : ℕ) (text : List ℕ) (part next : Part) (bs : List ℕ) → goes_on part b ≡ Some next → scan (under_way start text part) at (b ∷ bs) ≡ scan (under_way start (text ++ b ∷ []) next) (at + 1) bs
    → Under start (at + 1) (text ++ b ∷ []) next bs → Under start at text part (b ∷ bs)
under_next start at b text part next bs g e (inl u) = inl (u.0, e ∙ u.1)
under_next start at b text part next bs g e (inr u) =
    let k : at + 1 + length u.taken ≡ at + suc (length u.taken) = omega arith in
    let whole : (text ++ b ∷ []) ++ u.taken ≡ text ++ b ∷ u.taken = append_assoc text (b ∷ []) u.taken in
    inr (record {
      taken = b ∷ u.taken;
      rest = u.rest;
      parts = ap (λ (x : List ℕ). b ∷ x) u.parts;
      apart = u.apart;
      last = u.last;
      ran = ran_on part next b u.taken u.last g u.ran;
      over = u.over;
      found = e ∙ u.found ∙ ap (λ (t : List ℕ). word start t (scan gap (at + 1 + length u.taken) u.rest)) whole ∙ ap (λ (n : ℕ). word start (text ++ b ∷ u.taken) (scan gap n u.rest)) k;
      laid = subst (λ (n : ℕ). Laid n u.rest) k u.laid;
    })

pub laid : (place : Place) (at : ℕ) (bytes : List ℕ) → LaidFrom place at bytes
unfolding scan
laid gap at [] = ([], refl, ([], [], refl, refl, refl, λ none. refl), tt)
laid gap at (b ∷ bs) =
    elim (cases_bool (is_separator b)) [
      | inl sep ↦
          let l = laid gap (at + 1) bs in
          let s = scan gap (at + 1) bs in
          rw sep (with_words at b bs s.words s.end s.breaks (wider at b s.words bs l.0 sep l.1 s.end s.breaks l.2) l.3)
      | inr other ↦ elim (cases_option (opens b)) [
        | inl none ↦ none_laid at (b ∷ bs) at (rw (other, none) refl)
        | inr some ↦ word_laid at b some.0 bs some.1 (rw (other, some.1) refl) (laid (under_way at (b ∷ []) some.0) (at + 1) bs)
      ]
    ]
laid (under_way start text part) at [] =
    elim (cases_bool (may_end part)) [
      | inl may ↦ inr (record { taken = []; rest = []; parts = refl; apart = refl; last = part; ran = refl; over = may; found = rw (may, append-nil, add-zero) refl; laid = ([], refl, ([], [], refl, refl, refl, λ none. refl), tt) })
      | inr cut ↦ inl (at, rw cut refl)
    ]
laid (under_way start text part) at (b ∷ bs) =
    elim (cases_bool (may_end part && is_separator b)) [
      | inl over ↦
          let sep = and_right (may_end part) (is_separator b) over in
          let l = laid gap (at + 1) bs in
          let s = scan gap (at + 1) bs in
          let whole : Laid at (b ∷ bs) = rw sep (with_words at b bs s.words s.end s.breaks (wider at b s.words bs l.0 sep l.1 s.end s.breaks l.2) l.3) in
          inr (record { taken = []; rest = b ∷ bs; parts = refl; apart = sep; last = part; ran = refl; over = and_left (may_end part) (is_separator b) over; found = rw (over, append-nil, add-zero, sep) refl; laid = rw add-zero whole })
      | inr on ↦ elim (cases_option (goes_on part b)) [
        | inl none ↦ inl (at, rw (on, none) refl)
        | inr some ↦ under_next start at b text part some.0 bs some.1 (rw (on, some.1) refl) (laid (under_way start (text ++ b ∷ []) some.0) (at + 1) bs)
      ]
    ]
