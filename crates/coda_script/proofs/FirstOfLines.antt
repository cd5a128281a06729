-- A wrong column of a whole line is its first, behind any number of threads.
use Rattle.std.proofs.Common.{◌≡◌, ℕ, ◌+◌, Bool, true, false, ◌⊎◌, inl, inr, List, [], ◌∷◌, ◌++◌, Option, Some, None, Result, Ok, Err, refl, sym, ap, subst, ◌∙◌}
use Rattle.std.specs.Prelude.{codes, is_some}
use Rattle.std.proofs.lemmas.Bool.{false≢true}
use Rattle.coda_engine.specs.declared.status.Kind.{Kind}
use Rattle.coda_engine.specs.declared.status.Kind.TheVariants as kinds
use Rattle.coda_text.specs.Numbers.{number_from, begins_with_digit}
use Rattle.coda_text.specs.Texts.{is_quoted}
use Rattle.coda_text.specs.Words.{Split, Word, split_of}
use Rattle.coda_script.specs.declared.line.Line.{Line}
use Rattle.coda_script.specs.declared.line.Line.TheVariants.{Task}
use Rattle.coda_script.specs.declared.turns.Turns.{Turns}
use Rattle.coda_script.specs.declared.turns.Turns.TheVariants.{Unnamed, Thread, Several}
use Rattle.coda_script.specs.Slots.{between, number_in, is_word}
use Rattle.coda_script.specs.Table.{script, create_form}
use Rattle.coda_script.specs.Lines.{is_silent, with_thread, turns_at, placed, read_words, line_of}
use Rattle.coda_script.specs.Reading.{Fault, ◌>>=◌, is_next, missing, read}
use Rattle.coda_script.specs.Spelling.{begins}
use Rattle.coda_script.specs.FirstColumn.{IsTabled, BehindThreads, IsFormed, IsAtLastServer, EndsAtLastServer, BeginsOne, MayStand, IsWanted, IsToldAs, IsNotLastServer, IsFirstColumn, IsMisplaced}
use Rattle.coda_script.proofs.AnyForm.{sound}
use Rattle.coda_script.proofs.Avoiding.{script_avoids_at}
use Rattle.coda_script.proofs.Binding.{split, texts, chosen, ok_is, is_itself, word_is}
use Rattle.coda_script.proofs.Clear.{script_clear}
use Rattle.coda_script.proofs.FirstBytes.{number_begins, digit_unquoted, digit_unlettered, apart}
use Rattle.coda_script.proofs.FirstSteps.{Nowhere, NotExcepted, First, Told, AtHead, behind, stays, wanted_behind, may_stay, text_stays, path_stays, is_given, of_kind}
use Rattle.coda_script.proofs.FirstColumns.{first}
use Rattle.coda_script.proofs.Going.{Whole, alive}
use Rattle.coda_script.proofs.TableGoes.{script_goes}
use Rattle.coda_script.proofs.TurnSteps.{turns_stop}
use Rattle.coda_script.proofs.WholeLines.{is_only}
use Rattle.coda_script.proofs.WrongColumns.{head_is, faulty, cases_option, cases_is}

-- ---- lines of the table, and lines behind a thread

here : (Rest : List (List ℕ) → Type 0) (ts : List (List ℕ)) → Rest ts → BehindThreads Rest ts
here Rest [] r = r
here Rest (w ∷ []) r = r
here Rest (w ∷ v ∷ ts) r = inl r

-- what begins with no `at` stands behind no thread
threadless : (Rest : List (List ℕ) → Type 0) (ts : List (List ℕ)) → begins (is_word (codes "at")) ts ≡ false → BehindThreads Rest ts → Rest ts
threadless Rest [] n r = r
threadless Rest (w ∷ []) n r = r
threadless Rest (w ∷ v ∷ ts) n (inl r) = r
threadless Rest (w ∷ v ∷ ts) n (inr r) = absurd (false≢true (sym n ∙ ap (is_word (codes "at")) r.0 ∙ is_itself (codes "at")))

-- some line of the table
some_words : (ws : List (List ℕ)) × Whole script ws
unfolding script create_form
some_words = alive script script_clear refl

some_line : BeginsOne IsFormed []
some_line = (some_words.0, here IsTabled some_words.0 some_words.1)

-- where the words of a line end at the last server
abbrev AtLast : List (List ℕ) → Type 0
AtLast ts = BehindThreads EndsAtLastServer ts

-- a line whose first word passes a test that `at` doesn't is one of the table
tabled_so : (test : List ℕ → Bool) → test (codes "at") ≡ false → (word : List ℕ) (more : List (List ℕ)) → test word ≡ true → IsFormed (word ∷ more) → Whole script (word ∷ more)
tabled_so test n word more is p = threadless IsTabled (word ∷ more) (apart test (codes "at") word n is) p

nothing_last : AtLast [] → ⊥
nothing_last (v, servers, last, inl e, d, is) = absurd cc
nothing_last (v, servers, last, inr e, d, is) = absurd cc

-- a thread ends at no server
thread_last : (t : List ℕ) (ts : List (List ℕ)) → t ≡ codes "at" → EndsAtLastServer (t ∷ ts) → ⊥
thread_last t ts is (v, servers, last, inl e, d, n) = absurd (let x = sym is ∙ head_is t (codes "volume") ts (v ∷ codes "on" ∷ (servers ++ last ∷ [])) e in cc)
thread_last t ts is (v, servers, last, inr e, d, n) = absurd (let x = sym is ∙ head_is t (codes "resolve") ts (v ∷ (servers ++ last ∷ [])) e in cc)

thread_stuck : (t : List ℕ) (ts : List (List ℕ)) → t ≡ codes "at" → IsAtLastServer (t ∷ ts) → ⊥
thread_stuck t ts is (v, s, e, n, eight) = absurd (let x = sym is ∙ head_is t (codes "resolve") ts (v ∷ s ∷ []) e in cc)

stuck_behind : (w v : List ℕ) (ts : List (List ℕ)) → w ≡ codes "at" → BehindThreads IsAtLastServer (w ∷ v ∷ ts) → BehindThreads IsAtLastServer ts
stuck_behind w v ts is (inl z) = absurd (thread_stuck w (v ∷ ts) is z)
stuck_behind w v ts is (inr z) = z.2

last_behind : (w v : List ℕ) (ts : List (List ℕ)) → w ≡ codes "at" → AtLast (w ∷ v ∷ ts) → AtLast ts
last_behind w v ts is (inl z) = absurd (thread_last w (v ∷ ts) is z)
last_behind w v ts is (inr z) = z.2

-- what a first word is told as
beginning : (wrong : List ℕ) (kind : Kind) → AtHead script wrong kind → IsWanted IsFormed AtLast [] wrong kind
unfolding script
beginning wrong kinds.Word (inl un) = absurd cc
beginning wrong kinds.Word (inr i) = (
  (i.0.0, i.0.1, may_stay IsFormed (Whole script) (here IsTabled) [] i.0.0 i.0.2),
  λ word q m. i.1 word q (m.0, tabled_so is_quoted refl word m.0 q m.1),
  λ d. (λ word b m. i.2 d word b (m.0, tabled_so begins_with_digit refl word m.0 b m.1), nothing_last),
)
beginning wrong kinds.Number h = absurd (let n = h.0 in cc)
beginning wrong kinds.Text i = text_stays IsFormed (Whole script) AtLast Nowhere (here IsTabled) [] wrong i
beginning wrong kinds.Path i = path_stays IsFormed (Whole script) AtLast Nowhere (here IsTabled) [] wrong i
beginning wrong kinds.Count c = absurd cc
beginning wrong kinds.Mode h = absurd h
beginning wrong kinds.Actors h = absurd h

abbrev OfLine : List Word → ℕ → Option ℕ → ℕ → Kind → Type 0
OfLine ws end breaks column kind = First IsFormed (BehindThreads IsAtLastServer) AtLast (λ wrong k. IsWanted IsFormed AtLast [] wrong k) ws end breaks column kind

-- behind no thread
plain : (ws : List Word) (end : ℕ) (breaks : Option ℕ) (column : ℕ) (kind : Kind) → is_next (is_word (codes "at")) ws ≡ false → read script (split ws end breaks) ≡ Err (column, kind) → OfLine ws end breaks column kind
plain ws end breaks column kind n e =
    stays IsFormed (Whole script) (BehindThreads IsAtLastServer) IsAtLastServer AtLast EndsAtLastServer (λ wrong k. IsWanted IsFormed AtLast [] wrong k) (AtHead script) (is_word (codes "at")) ws end breaks column kind
    n (threadless IsTabled) (here IsTabled) (here IsAtLastServer) (threadless IsAtLastServer) (here EndsAtLastServer) (threadless EndsAtLastServer) (λ wrong m. beginning wrong) (first IsAtLastServer EndsAtLastServer script script_clear script_goes ws end breaks column kind e)

-- a thread that is named
abbrev IsThread : List ℕ → List ℕ → Type 0
IsThread at turn = (at ≡ codes "at") × (is_some (number_in (between 1 8) turn) ≡ true)

-- a line behind a thread is one that is read behind it
behind_thread : (at turn : List ℕ) → at ≡ codes "at" → (ts : List (List ℕ)) → IsFormed (at ∷ turn ∷ ts) → (is_some (number_in (between 1 8) turn) ≡ true) × IsFormed ts
behind_thread at turn is ts (inl r) = absurd (false≢true (sym (script_avoids_at (at ∷ turn ∷ ts) r.0 r.1) ∙ ap (is_word (codes "at")) is ∙ is_itself (codes "at")))
behind_thread at turn is ts (inr r) = (r.1, r.2)

-- some line goes on with a first thread
at_one : (at : List ℕ) → at ≡ codes "at" → MayStand IsFormed (at ∷ []) (codes "1")
unfolding number_from
at_one at is = (some_words.0, inr (is, refl, here IsTabled some_words.0 some_words.1))

-- the number of a thread is wanted
a_thread : (at wrong : List ℕ) → at ≡ codes "at" → IsWanted IsFormed AtLast (at ∷ []) wrong kinds.Number
unfolding number_from
a_thread at wrong is =
    (inl (codes "1", 1, refl, at_one at is), λ word q m. digit_unquoted word (begun_so word m.0 m.1) q, λ d word l m. digit_unlettered word (begun_so word m.0 m.1) l)
  where
    begun_so : (word : List ℕ) (more : List (List ℕ)) → IsFormed (at ∷ word ∷ more) → begins_with_digit word ≡ true
    begun_so word more p = let n = is_given (number_in (between 1 8) word) (behind_thread at word is more p).0 in number_begins (between 1 8) word n.0 n.1

not_stuck : (at turn : List ℕ) → at ≡ codes "at" → number_in (between 1 8) turn ≡ None → BehindThreads IsAtLastServer (at ∷ turn ∷ []) → ⊥
not_stuck at turn is none (inl z) = thread_stuck at (turn ∷ []) is z
not_stuck at turn is none (inr z) = false≢true (sym (ap (λ (o : Option ℕ). is_some o) none) ∙ z.1)

-- behind one more thread
one_more_thread : (w v : Word) (ws : List Word) (end : ℕ) (breaks : Option ℕ) (column : ℕ) (kind : Kind) → IsThread w.text v.text → OfLine ws end breaks column kind → OfLine (w ∷ v ∷ ws) end breaks column kind
one_more_thread w v ws end breaks column kind is r =
    let one = at_one w.text is.0 in
    let Behind : List (List ℕ) → Type 0 = λ ts. IsFormed (w.text ∷ ts) in
    let Stuck : List (List ℕ) → Type 0 = λ ts. BehindThreads IsAtLastServer (w.text ∷ ts) in
    let Last : List (List ℕ) → Type 0 = λ ts. AtLast (w.text ∷ ts) in
    let back : (ts : List (List ℕ)) → IsFormed (w.text ∷ v.text ∷ ts) → IsFormed ts = λ ts p. (behind_thread w.text v.text is.0 ts p).1 in
    let forth : (ts : List (List ℕ)) → IsFormed ts → IsFormed (w.text ∷ v.text ∷ ts) = λ ts p. inr (is.0, is.1, p) in
    behind IsFormed Behind (BehindThreads IsAtLastServer) Stuck AtLast Last (λ wrong k. IsWanted IsFormed AtLast [] wrong k) (λ wrong k. ⊥) w (v ∷ ws) end breaks column kind (λ ts p. p) (λ ts p. p) (λ ts p. p) (λ ts p. p) (λ ts p. p) (λ ts p. p)
    (inl (codes "1" ∷ one.0, one.1)) (λ wrong k h. absurd h) (
    behind Behind IsFormed Stuck (BehindThreads IsAtLastServer) Last AtLast (λ wrong k. ⊥) (λ wrong k. IsWanted IsFormed AtLast [] wrong k) v ws end breaks column kind back forth (λ ts p. inr (is.0, is.1, p)) (λ ts p. stuck_behind w.text v.text ts is.0 p) (λ ts p. inr (is.0, is.1, p)) (λ ts p. last_behind w.text v.text ts is.0 p)
    (inl some_line) (λ wrong k i. wanted_behind Behind IsFormed Last AtLast v.text back forth (λ ts p. inr (is.0, is.1, p)) (λ ts p. last_behind w.text v.text ts is.0 p) [] wrong k i) r)

-- ---- the words of a line

abbrev behind_turns : List Word → ℕ → Option ℕ → Turns → Result Line Fault
behind_turns ws end breaks seen = turns_at seen (split ws end breaks) ws >>= λ turns. read script turns.1

nothing_there : (ws : List Word) (end : ℕ) (breaks : Option ℕ) (seen : Turns) (column : ℕ) (kind : Kind) → is_next (is_word (codes "at")) ws ≡ false → behind_turns ws end breaks seen ≡ Err (column, kind) → OfLine ws end breaks column kind
nothing_there ws end breaks seen column kind n e = plain ws end breaks column kind n (rw (turns_stop (split ws end breaks) seen n) at e)

pub lines_first : (ws : List Word) (end : ℕ) (breaks : Option ℕ) (seen : Turns) (column : ℕ) (kind : Kind) → behind_turns ws end breaks seen ≡ Err (column, kind) → OfLine ws end breaks column kind
unfolding turns_at
lines_first [] end breaks seen column kind e = nothing_there [] end breaks seen column kind refl e
lines_first (w ∷ []) end breaks seen column kind e =
    elim (cases_is (is_word (codes "at") w.text)) [
      | inr n ↦ nothing_there (w ∷ []) end breaks seen column kind n e
      | inl is ↦
          let at = word_is (codes "at") w.text is in
          let one = at_one w.text at in
          let e' : (let r : Result Line Fault = Err (missing (split (w ∷ []) end breaks)) in r) ≡ Err (column, kind) = rw is at e in
          record {
            before = w ∷ [];
            after = [];
            parts = refl;
            place = sym (faulty (missing (split (w ∷ []) end breaks)) column kind e');
            starts = inr (inl (codes "1" ∷ one.0, one.1));
            none = λ whole p. false≢true (sym (script_avoids_at (w.text ∷ []) p.0 p.1) ∙ is);
            read = tt;
            told = sym (of_kind (missing (split (w ∷ []) end breaks)) column kind e');
          }
    ]
lines_first (w ∷ v ∷ ws) end breaks seen column kind e =
    elim (cases_is (is_word (codes "at") w.text)) [
      | inr n ↦ nothing_there (w ∷ v ∷ ws) end breaks seen column kind n e
      | inl is ↦
          let at = word_is (codes "at") w.text is in
          elim (cases_option (number_in (between 1 8) v.text)) [
            | inr some ↦
                one_more_thread w v ws end breaks column kind (at, ap (λ (o : Option ℕ). is_some o) some.1) (
                lines_first ws end breaks (with_thread seen some.0) column kind (rw (is, some.1) at e))
            | inl none ↦
                let one = at_one w.text at in
                let e' : (let r : Result Line Fault = Err (v.at + 1, kinds.Number) in r) ≡ Err (column, kind) = rw (is, none) at e in
                record {
                  before = w ∷ [];
                  after = v ∷ ws;
                  parts = refl;
                  place = sym (faulty (v.at + 1, kinds.Number) column kind e');
                  starts = inr (inl (codes "1" ∷ one.0, one.1));
                  none = λ whole m. false≢true (sym (ap (λ (o : Option ℕ). is_some o) none) ∙ (behind_thread w.text v.text at m.0 m.1).0);
                  read = λ x. not_stuck w.text v.text at none x;
                  told = subst (IsWanted IsFormed AtLast (w.text ∷ []) v.text) (of_kind (v.at + 1, kinds.Number) column kind e') (a_thread w.text v.text at);
                }
          ]
    ]

read_again : (before after : List Word) → NotExcepted (BehindThreads IsAtLastServer) (texts before) after → IsNotLastServer (texts before) after
read_again before [] n = tt
read_again before (w ∷ ws) n = n

told_again : (before after : List Word) (breaks : Option ℕ) (kind : Kind) → Told IsFormed AtLast (λ wrong k. IsWanted IsFormed AtLast [] wrong k) before after breaks kind → IsToldAs IsFormed AtLast (texts before) after breaks kind
told_again before [] breaks kind t = t
told_again [] (w ∷ ws) breaks kind t = t
told_again (b ∷ bs) (w ∷ ws) breaks kind t = t

starts_again : (before : List Word) → (before ≡ []) ⊎ (BeginsOne IsFormed (texts before) ⊎ BehindThreads IsAtLastServer (texts before)) → BeginsOne IsFormed (texts before) ⊎ BehindThreads IsAtLastServer (texts before)
starts_again before (inr s) = s
starts_again [] (inl e) = inl some_line
starts_again (b ∷ bs) (inl e) = absurd cc

first_column : (ws : List Word) (end : ℕ) (breaks : Option ℕ) (column : ℕ) (kind : Kind) → OfLine ws end breaks column kind → IsFirstColumn (split ws end breaks) column kind
first_column ws end breaks column kind r =
    record {
      before = r.before;
      after = r.after;
      parts = r.parts;
      place = r.place;
      starts = starts_again r.before r.starts;
      none = r.none;
      read = read_again r.before r.after r.read;
      told = told_again r.before r.after breaks kind r.told;
    }

-- ---- a line that may not stand there

at_head : (ws : List Word) (end : ℕ) (breaks : Option ℕ) (seen : Turns) (x : Turns × Split) (line : Line) → is_next (is_word (codes "at")) ws ≡ false → turns_at seen (split ws end breaks) ws ≡ Ok x → read script x.1 ≡ Ok line
    → (breaks ≡ None) × IsFormed (texts ws)
at_head ws end breaks seen x line n e r =
    let is : (seen, split ws end breaks) ≡ x = ok_is (seen, split ws end breaks) x (sym (turns_stop (split ws end breaks) seen n) ∙ e) in
    let s = sound script ws end breaks line (ap (λ (y : Turns × Split). read script y.1) is ∙ r) in
    (s.0, here IsTabled (texts ws) (line, s.1))

formed : (ws : List Word) (end : ℕ) (breaks : Option ℕ) (seen : Turns) (x : Turns × Split) (line : Line) → turns_at seen (split ws end breaks) ws ≡ Ok x → read script x.1 ≡ Ok line → (breaks ≡ None) × IsFormed (texts ws)
unfolding turns_at
formed [] end breaks seen x line e r = at_head [] end breaks seen x line refl e r
formed (w ∷ []) end breaks seen x line e r =
    elim (cases_is (is_word (codes "at") w.text)) [
      | inr n ↦ at_head (w ∷ []) end breaks seen x line n e r
      | inl is ↦ absurd (let e' : (let f : Result (Turns × Split) Fault = Err (missing (split (w ∷ []) end breaks)) in f) ≡ Ok x = rw is at e in cc)
    ]
formed (w ∷ v ∷ ws) end breaks seen x line e r =
    elim (cases_is (is_word (codes "at") w.text)) [
      | inr n ↦ at_head (w ∷ v ∷ ws) end breaks seen x line n e r
      | inl is ↦
          elim (cases_option (number_in (between 1 8) v.text)) [
            | inl none ↦ absurd (let e' : (let f : Result (Turns × Split) Fault = Err (v.at + 1, kinds.Number) in f) ≡ Ok x = rw (is, none) at e in cc)
            | inr some ↦
                let f = formed ws end breaks (with_thread seen some.0) x line (rw (is, some.1) at e) r in
                (f.0, inr (word_is (codes "at") w.text is, ap (λ (o : Option ℕ). is_some o) some.1, f.1))
          ]
    ]

placed_fault : (turns : Turns) (line : Line) (column : ℕ) (kind : Kind) → placed turns line ≡ Err (column, kind) → (column ≡ 1) × (kind ≡ kinds.Mode)
placed_fault Unnamed line column kind e = absurd cc
placed_fault (Thread thread) (Task task) column kind e = absurd cc
placed_fault (Thread thread) line column kind e = (sym (faulty (1, kinds.Mode) column kind e), sym (of_kind (1, kinds.Mode) column kind e))
placed_fault Several line column kind e = (sym (faulty (1, kinds.Mode) column kind e), sym (of_kind (1, kinds.Mode) column kind e))

-- ---- any line

some_fault : (r : Result Line Fault) (d : Fault) → (r >>= (λ said. let o : Result (Option Line) Fault = Ok (Some said) in o)) ≡ Err d → r ≡ Err d
some_fault (Ok said) d e = absurd cc
some_fault (Err c) d e = cc

-- reading is wrong, or what is read is out of its place
two_faults : (x : Turns × Split) (r : Result Line Fault) (d : Fault) → (r >>= (λ line. placed x.0 line)) ≡ Err d → (r ≡ Err d) ⊎ ((line : Line) × (r ≡ Ok line) × (placed x.0 line ≡ Err d))
two_faults x (Ok line) d e = inr (line, refl, e)
two_faults x (Err c) d e = inl e

any_fault : (r : Result (Turns × Split) Fault) (d : Fault) → (r >>= (λ turns. read script turns.1 >>= (λ line. placed turns.0 line))) ≡ Err d
    → ((r >>= (λ turns. read script turns.1)) ≡ Err d) ⊎ ((x : Turns × Split) × (line : Line) × (r ≡ Ok x) × (read script x.1 ≡ Ok line) × (placed x.0 line ≡ Err d))
any_fault (Ok x) d e =
    elim (two_faults x (read script x.1) d e) [
      | inl reading ↦ inl reading
      | inr place ↦ inr (x, place.0, refl, place.1, place.2)
    ]
any_fault (Err c) d e = inl e

pub first_of_line : (line : List ℕ) (column : ℕ) (kind : Kind) → line_of line ≡ Err (column, kind) → IsFirstColumn (split_of line) column kind ⊎ IsMisplaced line column kind
unfolding line_of read_words
first_of_line line column kind e =
    let s = split_of line in
    elim (chosen (is_silent line) (Ok None) (read_words s >>= (λ l. Ok (Some l))) (Err (column, kind)) e) [
      | inl t ↦ absurd (let n = t.1 in cc)
      | inr t ↦
          let words : read_words (split s.words s.end s.breaks) ≡ Err (column, kind) = some_fault (read_words s) (column, kind) t.1 in
          elim (any_fault (turns_at Unnamed (split s.words s.end s.breaks) s.words) (column, kind) words) [
            | inl reading ↦ inl (first_column s.words s.end s.breaks column kind (lines_first s.words s.end s.breaks Unnamed column kind reading))
            | inr place ↦
                let p = placed_fault place.0.0 place.1 column kind place.4 in
                let f = formed s.words s.end s.breaks Unnamed place.0 place.1 place.2 place.3 in
                inr (record {
                  place = p.0;
                  told = p.1;
                  whole = f.0;
                  formed = f.1;
                  none = λ said spelled. let g = sym e ∙ is_only line said (record { loud = t.0; whole = f.0; spelled = spelled }) in absurd cc;
                })
          ]
    ]
