-- A wrong column is the first that is wrong in a form: `first`, by recursion on the form.
use Rattle.std.proofs.Common.{◌≡◌, ℕ, ◌+◌, Bool, true, false, ◌⊎◌, inl, inr, List, [], ◌∷◌, ◌++◌, Option, Some, None, Result, Err, refl, sym, ap, subst, ◌∙◌, arith}
use Rattle.std.specs.Prelude.{codes, ◌&&◌, ◌||◌, not, nat_le}
use Rattle.std.specs.Fmt.{decimal}
use Rattle.std.proofs.lemmas.Bool.{false≢true, leb-true}
use Rattle.coda_engine.specs.declared.status.Kind.{Kind}
use Rattle.coda_engine.specs.declared.status.Kind.TheVariants as kinds
use Rattle.coda_text.specs.Numbers.{number_of, begins_with_digit}
use Rattle.coda_text.specs.Texts.{decoded, is_quoted}
use Rattle.coda_text.specs.Words.{Word, rest_of}
use Rattle.coda_text.proofs.Joining.{number_again}
use Rattle.coda_script.specs.declared.line.Line.{Line}
use Rattle.coda_script.specs.declared.line.Rights.{Rights}
use Rattle.coda_script.specs.Slots.{NumberSlot, between, TextSlot, number_in, path_in, name_in, rights_in, text_in, is_word, is_server}
use Rattle.coda_script.specs.Form.{Form, ends, nothing, either, a_number, a_path, a_name, some_rights, a_text, perhaps, servers_above}
use Rattle.coda_script.specs.Reading.{Fault, ◌>>=◌, slot_at, is_next, missing, servers_at, option_at, read}
use Rattle.coda_script.specs.Spelling.{begins, SpellServers, Spells}
use Rattle.coda_script.specs.FirstColumn.{MayStand, NoneStands, is_lettered}
use Rattle.coda_script.proofs.Avoiding.{avoids, avoided, and_left, and_right}
use Rattle.coda_script.proofs.Binding.{split, chosen, first_is}
use Rattle.coda_script.proofs.FirstBytes.{number_begins, digit_unquoted, digit_unlettered, rights_apart}
use Rattle.coda_script.proofs.FirstSteps.{Lines, Nowhere, First, WordAtHead, AtHead, behind, stays, may_stay, text_stays, path_stays, none_avoided, of_kind, at_end, at_word, resolved, begun, slot_first, is_given, number_head, stays_head}
use Rattle.coda_script.proofs.Going.{Whole, least, lives, least_held, alive, is_behind, counts, full, tells_number, wordy, Goes, server_is}
use Rattle.coda_script.proofs.Possible.{IsClear, number_text, number_again_in, servers_spelled}
use Rattle.coda_script.proofs.WrongColumns.{faulty, head_is, cases_option, cases_is, one_more, no_servers, no_number, one_server, option_taken, either_so, either_other, taken, perhaps_so, perhaps_none}

wordy_unquoted : (f : Form) → wordy f ≡ true → avoids is_quoted f ≡ true
wordy_unquoted f w = and_left (avoids is_quoted f) (avoids begins_with_digit f) w

-- ---- what the heads of forms tell

path_head : (X Z : Lines) (next : List (List ℕ) → Form) → IsClear (a_path next) → Goes X Z (a_path next) → (wrong : List ℕ) → AtHead (a_path next) wrong kinds.Path
path_head X Z next clear goes wrong = inl (λ word e.
    let p = is_given (path_in word) e in
    let a = alive (next p.0) (clear p.0) (goes.1 word p.0 p.1).0.0 in
    (a.0, (a.1.0, (word, a.0, refl, p.0, p.1, a.1.1))))

name_head : (X Z : Lines) (next : List ℕ → Form) → IsClear (a_name next) → Goes X Z (a_name next) → (wrong : List ℕ) → AtHead (a_name next) wrong kinds.Path
name_head X Z next clear goes wrong = inr (λ word e.
    let n = is_given (name_in word) e in
    let a = alive (next n.0) (clear n.0) (goes.1 word n.0 n.1).0.0 in
    (a.0, (a.1.0, (word, a.0, refl, n.0, n.1, a.1.1))))

rights_head : (X Z : Lines) (next : Rights → Form) → IsClear (some_rights next) → Goes X Z (some_rights next) → (wrong : List ℕ) → AtHead (some_rights next) wrong kinds.Word
rights_head X Z next clear goes wrong =
    let r : Rights = record { read = true; lookup = false; insert = false; delete = false; write = false } in
    let a = alive (next r) (clear r) (goes.1 (codes "r") r refl).0.0 in
    inr (
      (codes "r", refl, (a.0, (a.1.0, (codes "r", a.0, refl, r, refl, a.1.1)))),
      λ word q m. (apart_so word m.0 m.1.0 m.1.1).0 q,
      λ d word q m. (apart_so word m.0 m.1.0 m.1.1).1 q,
      λ n. absurd cc,
    )
  where
    apart_so : (word : List ℕ) (more : List (List ℕ)) (line : Line) → Spells (some_rights next) (word ∷ more) line → (is_quoted word ≡ true → ⊥) × (begins_with_digit word ≡ true → ⊥)
    apart_so word more line s = rights_apart word s.3 (ap rights_in (head_is word s.0 more s.1 s.2) ∙ s.4)

-- a text that is no path and no name
abbrev slashed : List ℕ
slashed = 34 ∷ 97 ∷ 47 ∷ 34 ∷ []

text_head : (X Z : Lines) (slot : TextSlot) (next : List ℕ → Form) → IsClear (a_text slot next) → Goes X Z (a_text slot next) → (wrong : List ℕ) → AtHead (a_text slot next) wrong kinds.Text
unfolding decoded
text_head X Z slot next clear goes wrong =
    let t : text_in slot slashed ≡ Some (codes "a/") = rw goes.0 refl in
    let a = alive (next (codes "a/")) (clear (codes "a/")) (goes.2 slashed (codes "a/") t).0.0 in
    (slashed, refl, refl, refl, (a.0, (a.1.0, (slashed, a.0, refl, codes "a/", t, a.1.1))))

ends_head : (kind : Kind) (said : Line) → is_behind kind ≡ true → (wrong : List ℕ) → AtHead (ends kind said) wrong kind
ends_head kinds.Word said e wrong = inl refl
ends_head kinds.Number said e wrong = absurd cc
ends_head kinds.Text said e wrong = absurd cc
ends_head kinds.Path said e wrong = absurd cc
ends_head kinds.Count said e wrong = refl
ends_head kinds.Mode said e wrong = absurd cc
ends_head kinds.Actors said e wrong = absurd cc

-- ---- servers

more_servers : (all : Bool) (last s : ℕ) (next : List ℕ → Form) (t : List ℕ) → is_server all t ≡ true → number_in (between (last + 1) 8) t ≡ Some s → (ts : List (List ℕ)) (line : Line)
    → Spells (servers_above all s (λ ss. next (s ∷ ss))) ts line → Spells (servers_above all last next) (t ∷ ts) line
more_servers all last s next t is number ts line (mine, rest, e, ss, m, d, r) = (t ∷ mine, rest, ap (λ (x : List (List ℕ)). t ∷ x) e, s ∷ ss, (is, number, m), d, r)

-- what the next of some servers begins with
server_or_next : (all : Bool) (last : ℕ) (next : List ℕ → Form) (word : List ℕ) (more : List (List ℕ)) (line : Line) → Spells (servers_above all last next) (word ∷ more) line
    → (begins_with_digit word ≡ true) ⊎ ((is_server all word ≡ false) × Spells (next []) (word ∷ more) line)
server_or_next all last next word more line ([], rest, e, [], m, d, r) =
    inr (ap (begins (is_server all)) e ∙ d, subst (λ (us : List (List ℕ)). Spells (next []) us line) (sym e) r)
server_or_next all last next word more line ([], rest, e, x ∷ ss, m, d, r) = absurd m
server_or_next all last next word more line (w ∷ mine, rest, e, [], m, d, r) = absurd m
server_or_next all last next word more line (w ∷ mine, rest, e, x ∷ ss, m, d, r) =
    inl (number_begins (between (last + 1) 8) word x (ap (number_in (between (last + 1) 8)) (head_is word w more (mine ++ rest) e) ∙ m.1))

servers_unquoted : (all : Bool) (last : ℕ) (next : List ℕ → Form) → avoids is_quoted (next []) ≡ true → NoneStands (Whole (servers_above all last next)) is_quoted []
servers_unquoted all last next a = λ word q m. elim (server_or_next all last next word m.0 m.1.0 m.1.1) [
  | inl digit ↦ digit_unquoted word digit q
  | inr other ↦ none_avoided (next []) is_quoted a word q (m.0, (m.1.0, other.1))
]

-- where each word is a server, none is of letters
servers_unlettered : (all : Bool) (last : ℕ) (next : List ℕ → Form) (wrong : List ℕ) → is_server all wrong ≡ true → begins_with_digit wrong ≡ false → NoneStands (Whole (servers_above all last next)) is_lettered []
servers_unlettered false last next wrong is n = absurd (false≢true (sym n ∙ is))
servers_unlettered true last next wrong is n = λ word l m. elim (server_or_next true last next word m.0 m.1.0 m.1.1) [
  | inl digit ↦ digit_unlettered word digit l
  | inr other ↦ absurd (false≢true (sym other.0))
]

-- a server could stand there, or none is above the last
servers_head : (X Z : Lines) (all : Bool) (last : ℕ) (next : List ℕ → Form) → IsClear (servers_above all last next) → Goes X Z (servers_above all last next) → (wrong : List ℕ) → is_server all wrong ≡ true → AtHead (servers_above all last next) wrong kinds.Number
servers_head X Z all last next clear goes wrong server =
    (refl, some, servers_unquoted all last next (wordy_unquoted (next []) (goes [] [] tt).3), servers_unlettered all last next wrong server)
  where
    some : (full (servers_above all last next) ≡ false) ⊎ ((word : List ℕ) × (n : ℕ) × (number_of word ≡ Some n) × MayStand (Whole (servers_above all last next)) [] word)
    some =
        elim (cases_is (nat_le (last + 1) 8 && lives (next ((last + 1) ∷ [])))) [
          | inr none ↦ inl none
          | inl one ↦
              let s = last + 1 in
              let le = leb-true s 8 (and_left (nat_le s 8) (lives (next (s ∷ []))) one) in
              let m = (servers_spelled all last (s ∷ []) ((omega arith, le), tt)).0 in
              let a = alive (next (s ∷ [])) (clear (s ∷ [])).1 (and_right (nat_le s 8) (lives (next (s ∷ []))) one) in
              inr (
                decimal s,
                s,
                number_again s (omega (arith, le)),
                (a.0, (a.1.0, (decimal s ∷ [], a.0, refl, s ∷ [], m, avoided (next (s ∷ [])) (is_server all) a.0 a.1.0 (clear (s ∷ [])).0 a.1.1, a.1.1))),
              )
        ]

or_left : (a b : Bool) → (a || b) ≡ true → a ≡ false → b ≡ true
or_left true b e n = absurd cc
or_left false b e n = e

not_both : (b : Bool) → not b ≡ true → b ≡ true → ⊥
not_both true n e = absurd cc
not_both false n e = absurd cc

is_all : (all : Bool) (t : List ℕ) → is_server all t ≡ false → all ≡ false
is_all true t e = absurd cc
is_all false t e = refl

not_digit : (all : Bool) (t : List ℕ) → is_server all t ≡ false → begins_with_digit t ≡ false
not_digit true t e = absurd cc
not_digit false t e = e

-- no further server stands there
done_head : (X Z : Lines) (all : Bool) (last : ℕ) (next : List ℕ → Form) → IsClear (servers_above all last next) → Goes X Z (servers_above all last next)
    → ((ts : List (List ℕ)) → Whole (next []) ts → Whole (servers_above all last next) ts)
    → (wrong : List ℕ) → is_server all wrong ≡ false → (kind : Kind) → AtHead (next []) wrong kind → AtHead (servers_above all last next) wrong kind
done_head X Z all last next clear goes forth wrong other kinds.Word (inl un) = inl un
done_head X Z all last next clear goes forth wrong other kinds.Word (inr i) =
    inr (
      (i.0.0, i.0.1, may_stay (Whole (servers_above all last next)) (Whole (next [])) forth [] i.0.0 i.0.2),
      servers_unquoted all last next (wordy_unquoted (next []) (goes [] [] tt).3),
      λ d. absurd (false≢true (sym (not_digit all wrong other) ∙ d)),
      λ n. not_digit all wrong other,
    )
done_head X Z all last next clear goes forth wrong other kinds.Number h = absurd (false≢true (sym (goes [] [] tt).1 ∙ h.0))
done_head X Z all last next clear goes forth wrong other kinds.Text i = text_stays (Whole (servers_above all last next)) (Whole (next [])) Nowhere Nowhere forth [] wrong i
done_head X Z all last next clear goes forth wrong other kinds.Path i = path_stays (Whole (servers_above all last next)) (Whole (next [])) Nowhere Nowhere forth [] wrong i
done_head X Z all last next clear goes forth wrong other kinds.Count c =
    absurd (not_both (counts (next [])) (or_left all (not (counts (next []))) (goes [] [] tt).2 (is_all all wrong other)) c)
done_head X Z all last next clear goes forth wrong other kinds.Mode h = absurd h
done_head X Z all last next clear goes forth wrong other kinds.Actors h = absurd h

done_back : (all : Bool) (last : ℕ) (next : List ℕ → Form) (ts : List (List ℕ)) → begins (is_server all) ts ≡ false → Whole (servers_above all last next) ts → Whole (next []) ts
done_back all last next ts n p = (p.0, no_servers all last next ts p.0 n p.1)

done_forth : (all : Bool) (last : ℕ) (next : List ℕ → Form) → IsClear (servers_above all last next) → (ts : List (List ℕ)) → Whole (next []) ts → Whole (servers_above all last next) ts
done_forth all last next clear ts p = (p.0, ([], ts, refl, [], tt, avoided (next []) (is_server all) ts p.0 (clear []).0 p.1, p.1))

another : (X Z : Lines) (all : Bool) (last s : ℕ) (next : List ℕ → Form) (t : List ℕ) → IsClear (servers_above all last next) → Goes X Z (servers_above all last next) → is_server all t ≡ true → number_in (between (last + 1) 8) t ≡ Some s
    → (full (servers_above all s (λ ss. next (s ∷ ss))) ≡ true) ⊎ Z (t ∷ [])
another X Z all last s next t clear goes server number =
    elim (server_is (last + 1) s t number) [
      | inr eight ↦ inr ((goes [] [] tt).4 t eight)
      | inl less ↦
          let le = leb-true (s + 1) 8 less in
          let m = (servers_spelled all s ((s + 1) ∷ []) ((omega arith, le), tt)).0 in
          inl (rw less (goes (t ∷ decimal (s + 1) ∷ []) (s ∷ (s + 1) ∷ []) (server, number, m)).0.0)
    ]

servers_first : (X Z : Lines) (all : Bool) (ws : List Word) (last : ℕ) (next : List ℕ → Form) (end : ℕ) (breaks : Option ℕ) (column : ℕ) (k : Kind)
    → IsClear (servers_above all last next) → Goes X Z (servers_above all last next)
    → (servers_at all last (split ws end breaks) ws >>= (λ n. read (next n.0) n.1)) ≡ Err (column, k)
    → ((mine : List (List ℕ)) (ss : List ℕ) → SpellServers all last mine ss → (rest : List Word) → read (next ss) (split rest end breaks) ≡ Err (column, k) → First (Whole (next ss)) (λ ts. X (mine ++ ts)) (λ ts. Z (mine ++ ts)) (AtHead (next ss)) rest end breaks column k)
    → First (Whole (servers_above all last next)) X Z (AtHead (servers_above all last next)) ws end breaks column k
unfolding servers_at
servers_first X Z all [] last next end breaks column k clear goes e rec =
    let f = servers_above all last next in
    stays (Whole f) (Whole (next [])) X X Z Z (AtHead f) (AtHead (next [])) (is_server all) [] end breaks column k refl (done_back all last next) (done_forth all last next clear) (λ ts x. x) (λ ts n x. x) (λ ts x. x) (λ ts n x. x)
    (done_head X Z all last next clear goes (done_forth all last next clear)) (rec [] [] tt [] e)
servers_first X Z all (w ∷ ws) last next end breaks column k clear goes e rec =
    let f = servers_above all last next in
    elim (cases_is (is_server all w.text)) [
      | inr other ↦
          stays (Whole f) (Whole (next [])) X X Z Z (AtHead f) (AtHead (next [])) (is_server all) (w ∷ ws) end breaks column k other (done_back all last next) (done_forth all last next clear) (λ ts x. x) (λ ts n x. x) (λ ts x. x) (λ ts n x. x)
          (done_head X Z all last next clear goes (done_forth all last next clear)) (rec [] [] tt (w ∷ ws) (rw other at e))
      | inl server ↦ elim (cases_option (number_in (between (last + 1) 8) w.text)) [
        | inl none ↦
            let e' : (let r : Result Line Fault = Err (w.at + 1, kinds.Number) in r) ≡ Err (column, k) = rw (server, none) at e in
            at_word (Whole f) X Z (AtHead f) w ws end breaks column k (faulty (w.at + 1, kinds.Number) column k e') (subst (AtHead f w.text) (of_kind (w.at + 1, kinds.Number) column k e') (servers_head X Z all last next clear goes w.text server))
            (λ m. no_number all last next w.text server none m.0 m.1.0 m.1.1) ((goes [] [] tt).5 w.text)
        | inr some ↦
            let s = some.0 in
            let then : List ℕ → Form = λ ss. next (s ∷ ss) in
            let g = servers_above all s then in
            let clear' : IsClear g = λ ss. clear (s ∷ ss) in
            let goes' : Goes (λ ts. X (w.text ∷ ts)) (λ ts. Z (w.text ∷ ts)) g = λ mine ss m. goes (w.text ∷ mine) (s ∷ ss) (server, some.1, m) in
            let sure = (goes (w.text ∷ []) (s ∷ []) (server, some.1, tt)).0 in
            let back : (ts : List (List ℕ)) → Whole f (w.text ∷ ts) → Whole g ts = λ ts p. (p.0, one_server all last s next w.text server some.1 ts p.0 p.1) in
            let forth : (ts : List (List ℕ)) → Whole g ts → Whole f (w.text ∷ ts) = λ ts p. (p.0, more_servers all last s next w.text server some.1 ts p.0 p.1) in
            let e' = one_more s next (servers_at all s (split ws end breaks) ws) column k (rw (server, some.1) at e) in
            behind (Whole f) (Whole g) X (λ ts. X (w.text ∷ ts)) Z (λ ts. Z (w.text ∷ ts)) (AtHead f) (AtHead g) w ws end breaks column k back forth (λ ts x. x) (λ ts x. x) (λ ts x. x) (λ ts x. x)
            (inl (alive g clear' sure.0)) (resolved (Whole f) Z g w.text back forth sure.1 (another X Z all last s next w.text clear goes server some.1) (λ z. refl))
            (servers_first (λ ts. X (w.text ∷ ts)) (λ ts. Z (w.text ∷ ts)) all ws s then end breaks column k clear' goes' e' (λ mine ss m. rec (w.text ∷ mine) (s ∷ ss) (server, some.1, m)))
      ]
    ]

-- ---- any form

-- a fixed word is wanted
fixed_word : (f : Form) → wordy f ≡ true → tells_number f ≡ false → (wrong word : List ℕ) → is_lettered word ≡ true → MayStand (Whole f) [] word → WordAtHead f wrong
fixed_word f w untold wrong word l m =
    ((word, l, m), none_avoided f is_quoted (wordy_unquoted f w), λ d. none_avoided f begins_with_digit (and_right (avoids is_quoted f) (avoids begins_with_digit f) w), λ n. absurd (false≢true (sym untold ∙ n)))

perhaps_taken : (word : List ℕ) (slot : NumberSlot) (next : Option ℕ → Form) (t : List ℕ) → t ≡ word → (ts : List (List ℕ)) (line : Line) → Spells (a_number slot (λ n. next (Some n))) ts line → Spells (perhaps word slot next) (t ∷ ts) line
perhaps_taken word slot next t is ts line s = inl (s.0, s.1, ap (λ (x : List ℕ). x ∷ ts) is ∙ ap (λ (x : List (List ℕ)). word ∷ x) s.2, s.3, s.4, s.5)

not_taken : (word : List ℕ) (slot : NumberSlot) (next : Option ℕ → Form) (ws : List Word) (end : ℕ) (breaks : Option ℕ) (column : ℕ) (kind : Kind) → is_next (is_word word) ws ≡ false → read (perhaps word slot next) (split ws end breaks) ≡ Err (column, kind)
    → read (next None) (split ws end breaks) ≡ Err (column, kind)
unfolding option_at
not_taken word slot next ws end breaks column kind other e = rw other at e

pub first : (X Z : Lines) (f : Form) → IsClear f → Goes X Z f → (ws : List Word) (end : ℕ) (breaks : Option ℕ) (column : ℕ) (kind : Kind) → read f (split ws end breaks) ≡ Err (column, kind)
    → First (Whole f) X Z (AtHead f) ws end breaks column kind
first X Z (ends k l) clear goes [] end None column kind e = absurd cc
first X Z (ends k l) clear goes [] end (Some b) column kind e =
    record {
      before = [];
      after = [];
      parts = refl;
      place = sym (faulty (missing (split [] end (Some b))) column kind e);
      starts = inl refl;
      read = tt;
      none = λ whole. absurd (let n = whole refl in cc);
      told = sym (of_kind (missing (split [] end (Some b))) column kind e);
    }
first X Z (ends k l) clear goes (w ∷ ws) end breaks column kind e =
    at_word (Whole (ends k l)) X Z (AtHead (ends k l)) w ws end breaks column kind (faulty (w.at + 1, k) column kind e) (subst (AtHead (ends k l) w.text) (of_kind (w.at + 1, k) column kind e) (ends_head k l goes.0 w.text))
    (λ m. let n = m.1.1.0 in absurd cc) (goes.1 w.text)
first X Z nothing clear goes [] end breaks column kind e =
    at_end (Whole nothing) X Z (AtHead nothing) end breaks column kind (faulty (missing (split [] end breaks)) column kind e) (of_kind (missing (split [] end breaks)) column kind e) (λ p. p.1)
first X Z nothing clear goes (w ∷ ws) end breaks column kind e =
    at_word (Whole nothing) X Z (AtHead nothing) w ws end breaks column kind (faulty (w.at + 1, kinds.Word) column kind e) (subst (AtHead nothing w.text) (of_kind (w.at + 1, kinds.Word) column kind e) (inl refl)) (λ m. m.1.1) (goes w.text)
first X Z (either word so other) clear goes ws end breaks column kind e =
    let f = either word so other in
    let a = alive so clear.2 goes.1.0 in
    elim (chosen (is_next (is_word word) ws) (read so (rest_of (split ws end breaks))) (read other (split ws end breaks)) (Err (column, kind)) e) [
      | inl t ↦
          let v = first_is word ws t.0 in
          let e' : read so (rest_of (split (v.0 ∷ v.1) end breaks)) ≡ Err (column, kind) = rw v.2 at t.1 in
          let back : (ts : List (List ℕ)) → Whole f (v.0.text ∷ ts) → Whole so ts = λ ts p. (p.0, either_so word so other v.0.text v.3 ts p.0 p.1) in
          let forth : (ts : List (List ℕ)) → Whole so ts → Whole f (v.0.text ∷ ts) = λ ts p. (p.0, inl (ts, ap (λ (t : List ℕ). t ∷ ts) v.3, p.1)) in
          subst (λ (x : List Word). First (Whole f) X Z (AtHead f) x end breaks column kind) (sym v.2) (
          behind (Whole f) (Whole so) X (λ ts. X (word ∷ ts)) Z (λ ts. Z (word ∷ ts)) (AtHead f) (AtHead so) v.0 v.1 end breaks column kind back forth (λ ts x. subst (λ (t : List ℕ). X (t ∷ ts)) (sym v.3) x) (λ ts x. subst (λ (t : List ℕ). X (t ∷ ts)) v.3 x) (λ ts x. subst (λ (t : List ℕ). Z (t ∷ ts)) (sym v.3) x) (λ ts x. subst (λ (t : List ℕ). Z (t ∷ ts)) v.3 x)
          (inl a) (resolved (Whole f) Z so v.0.text back forth goes.1.1 (inl goes.1.2) (λ z. absurd (goes.2 (subst (λ (t : List ℕ). Z (t ∷ [])) v.3 z)))) (first (λ ts. X (word ∷ ts)) (λ ts. Z (word ∷ ts)) so clear.2 goes.6 v.1 end breaks column kind e'))
      | inr t ↦
          let back : (ts : List (List ℕ)) → begins (is_word word) ts ≡ false → Whole f ts → Whole other ts = λ ts n p. (p.0, either_other word so other ts p.0 n p.1) in
          let forth : (ts : List (List ℕ)) → Whole other ts → Whole f ts = λ ts p. (p.0, inr (avoided other (is_word word) ts p.0 clear.1 p.1, p.1)) in
          let wanted : (wrong : List ℕ) → WordAtHead f wrong = λ wrong. fixed_word f goes.5 refl wrong word goes.0 (a.0, (a.1.0, inl (a.0, refl, a.1.1))) in
          stays (Whole f) (Whole other) X X Z Z (AtHead f) (AtHead other) (is_word word) ws end breaks column kind t.0 back forth (λ ts x. x) (λ ts n x. x) (λ ts x. x) (λ ts n x. x)
          (λ wrong n. stays_head f other forth wanted goes.3 goes.4 wrong) (first X Z other clear.3 goes.7 ws end breaks column kind t.1)
    ]
first X Z (a_number slot next) clear goes ws end breaks column kind e =
    slot_first X Z (a_number slot next) kinds.Number (number_in slot) next ws end breaks column kind (λ ts line s. s) (λ ts line s. s) (number_head slot next clear) goes.0
    (λ w n is. let g = goes.1 w n is in (begun X w (next n) (clear n) g.0.0, g.0.1, g.0.2, g.0.3)) e
    (λ w n is rest r. first (λ ts. X (w ∷ ts)) (λ ts. Z (w ∷ ts)) (next n) (clear n) (goes.1 w n is).1 rest end breaks column kind r)
first X Z (a_path next) clear goes ws end breaks column kind e =
    slot_first X Z (a_path next) kinds.Path path_in next ws end breaks column kind (λ ts line s. s) (λ ts line s. s) (path_head X Z next clear goes) (λ w n. goes.0 w)
    (λ w p is. let g = goes.1 w p is in (inl (alive (next p) (clear p) g.0.0), g.0.1, inl g.0.2, λ z. absurd (g.1 z))) e
    (λ w p is rest r. first (λ ts. X (w ∷ ts)) (λ ts. Z (w ∷ ts)) (next p) (clear p) (goes.1 w p is).2 rest end breaks column kind r)
first X Z (a_name next) clear goes ws end breaks column kind e =
    slot_first X Z (a_name next) kinds.Path name_in next ws end breaks column kind (λ ts line s. s) (λ ts line s. s) (name_head X Z next clear goes) (λ w n. goes.0 w)
    (λ w n is. let g = goes.1 w n is in (inl (alive (next n) (clear n) g.0.0), g.0.1, inl g.0.2, λ z. absurd (g.1 z))) e
    (λ w n is rest r. first (λ ts. X (w ∷ ts)) (λ ts. Z (w ∷ ts)) (next n) (clear n) (goes.1 w n is).2 rest end breaks column kind r)
first X Z (some_rights next) clear goes ws end breaks column kind e =
    slot_first X Z (some_rights next) kinds.Word rights_in next ws end breaks column kind (λ ts line s. s) (λ ts line s. s) (rights_head X Z next clear goes) (λ w n. goes.0 w)
    (λ w r is. let g = goes.1 w r is in (inl (alive (next r) (clear r) g.0.0), g.0.1, inl g.0.2, λ z. absurd (g.1 z))) e
    (λ w n is rest r. first (λ ts. X (w ∷ ts)) (λ ts. Z (w ∷ ts)) (next n) (clear n) (goes.1 w n is).2 rest end breaks column kind r)
first X Z (a_text slot next) clear goes ws end breaks column kind e =
    slot_first X Z (a_text slot next) kinds.Text (text_in slot) next ws end breaks column kind (λ ts line s. s) (λ ts line s. s) (text_head X Z slot next clear goes) (λ w n. goes.1 w)
    (λ w t is. let g = goes.2 w t is in (inl (alive (next t) (clear t) g.0.0), g.0.1, inl g.0.2, λ z. absurd (g.1 z))) e
    (λ w t is rest r. first (λ ts. X (w ∷ ts)) (λ ts. Z (w ∷ ts)) (next t) (clear t) (goes.2 w t is).2 rest end breaks column kind r)
first X Z (perhaps word slot next) clear goes ws end breaks column kind e =
    let f = perhaps word slot next in
    let g = a_number slot (λ n. next (Some n)) in
    let lives_then : lives g ≡ true = rw (goes.1, (goes.7 (number_text slot (least slot)) (least slot) (number_again_in slot (least slot) (least_held slot goes.1))).0.0) refl in
    let a = alive g (λ n. clear.2 (Some n)) lives_then in
    elim (cases_is (is_next (is_word word) ws)) [
      | inl there ↦
          let v = first_is word ws there in
          let e' = option_taken slot next (slot_at kinds.Number (number_in slot) (split v.1 end breaks)) column kind (taken word slot next ws v.0 v.1 end breaks column kind v.2 v.3 e) in
          let back : (ts : List (List ℕ)) → Whole f (v.0.text ∷ ts) → Whole g ts = λ ts p. (p.0, perhaps_so word slot next v.0.text v.3 ts p.0 p.1) in
          let forth : (ts : List (List ℕ)) → Whole g ts → Whole f (v.0.text ∷ ts) = λ ts p. (p.0, perhaps_taken word slot next v.0.text v.3 ts p.0 p.1) in
          subst (λ (x : List Word). First (Whole f) X Z (AtHead f) x end breaks column kind) (sym v.2) (
          behind (Whole f) (Whole g) X (λ ts. X (word ∷ ts)) Z (λ ts. Z (word ∷ ts)) (AtHead f) (AtHead g) v.0 v.1 end breaks column kind back forth (λ ts x. subst (λ (t : List ℕ). X (t ∷ ts)) (sym v.3) x) (λ ts x. subst (λ (t : List ℕ). X (t ∷ ts)) v.3 x) (λ ts x. subst (λ (t : List ℕ). Z (t ∷ ts)) (sym v.3) x) (λ ts x. subst (λ (t : List ℕ). Z (t ∷ ts)) v.3 x)
          (inl a) (resolved (Whole f) Z g v.0.text back forth refl (inl lives_then) (λ z. refl)) (
          slot_first (λ ts. X (word ∷ ts)) (λ ts. Z (word ∷ ts)) g kinds.Number (number_in slot) (λ n. next (Some n)) v.1 end breaks column kind (λ ts line s. s) (λ ts line s. s) (number_head slot (λ n. next (Some n)) (λ n. clear.2 (Some n))) (λ w n. goes.6 w)
          (λ w n is. let s = goes.7 w n is in (inl (alive (next (Some n)) (clear.2 (Some n)) s.0.0), s.0.1, inl s.0.2, λ z. absurd (s.1 z))) e'
          (λ w n is rest r. first (λ ts. X (word ∷ w ∷ ts)) (λ ts. Z (word ∷ w ∷ ts)) (next (Some n)) (clear.2 (Some n)) (goes.7 w n is).2 rest end breaks column kind r)))
      | inr other ↦
          let back : (ts : List (List ℕ)) → begins (is_word word) ts ≡ false → Whole f ts → Whole (next None) ts = λ ts n p. (p.0, perhaps_none word slot next ts p.0 n p.1) in
          let forth : (ts : List (List ℕ)) → Whole (next None) ts → Whole f ts = λ ts p. (p.0, inr (avoided (next None) (is_word word) ts p.0 clear.1 p.1, p.1)) in
          let wanted : (wrong : List ℕ) → WordAtHead f wrong = λ wrong. fixed_word f goes.5 refl wrong word goes.0 (a.0, (a.1.0, perhaps_taken word slot next word refl a.0 a.1.0 a.1.1)) in
          stays (Whole f) (Whole (next None)) X X Z Z (AtHead f) (AtHead (next None)) (is_word word) ws end breaks column kind other back forth (λ ts x. x) (λ ts n x. x) (λ ts x. x) (λ ts n x. x)
          (λ wrong n. stays_head f (next None) forth wanted goes.3 goes.4 wrong) (first X Z (next None) (clear.2 None) goes.8 ws end breaks column kind (not_taken word slot next ws end breaks column kind other e))
    ]
first X Z (servers_above all last next) clear goes ws end breaks column kind e =
    servers_first X Z all ws last next end breaks column kind clear goes e (λ mine ss m rest r. first (λ ts. X (mine ++ ts)) (λ ts. Z (mine ++ ts)) (next ss) (clear ss).1 (goes mine ss m).6 rest end breaks column kind r)
