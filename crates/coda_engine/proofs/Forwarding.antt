-- Replies that are gathered before the sink gets them.
use Rattle.std.proofs.Common.{◌≡◌, ◌≢◌, ℕ, ◌+◌, ◌≤◌, false, List, [], ◌∷◌, ◌++◌, length, refl, sym, ap, ◌∙◌, subst, append_assoc, inl, inr, arith, length-append, take, drop, suc, nat_lt, MatchBool, Option, Some}
use Rattle.std.specs.Str.Lines.{lines, strip_carriage_return}
use Rattle.std.specs.Io.KnownBytes.{Appends}
use Rattle.std.proofs.lemmas.List.{append-nil, take-append-drop, drop-drop, length-drop, drop_all}
use Rattle.std.proofs.lemmas.Bool.Decides.{leb_tells}
use Rattle.std.proofs.KnownBytes.{Appends-nil, Appends-trans}
use Rattle.coda_engine.specs.Machine.{Gives, Refuses, Breaks, Leaves}
use Rattle.coda_engine.specs.Run.{Runs, Ran, BrokeOff}
use Rattle.coda_engine.specs.Reading.{Place, HasRoom, IsFull, Stands, StopsAmong, Advances, Stops, Ends, LineStops}
use Rattle.coda_engine.specs.Gathering.{Forwards, LineHalts, Gathers, Halts, IsClosed, Closes}
use Rattle.coda_engine.specs.declared.status.Status.{Status}
use Rattle.coda_engine.specs.declared.status.Status.TheVariants.{Done, Usage, Script, SourceFault, SinkFault, TooLong, BayFault, Memory}
use Rattle.coda_engine.proofs.Feeding.{advances_none, advances_more, advances_stop, byte_advances, line_advances, full_stops, memory_stops, line_stops, ends_last, ends_stop}

-- ---- what waits behind what was sent

pub forwards_more : (a b c : Option (List ℕ)) (v w x t u : List ℕ) → Forwards a b v w t → Forwards b c w x u → Forwards a c v x (t ++ u)
forwards_more a b c v w x t u f g =
    (f.0 ++ g.0, Appends-trans a b c f.0 g.0 f.1 g.1, rw (append_assoc f.0 g.0 x, g.2, ← append_assoc f.0 w u, f.2, append_assoc v t u) refl)

-- no more waits than was gathered
pub few_wait : (bytes : List ℕ) (at count : ℕ) → count ≡ length bytes → count ≤ 65536 → length (drop at bytes) ≤ 65536
few_wait bytes at count is few = omega (arith, length-drop at bytes, is, few)

-- the test whether a reply waits
pub waits_tell : (bytes : List ℕ) (at count : ℕ) → count ≡ length bytes → MatchBool (nat_lt at count) (drop at bytes ≢ []) (drop at bytes ≡ [])
waits_tell bytes at count is =
    elim (leb_tells (suc at) count) [
      | inl some ↦ rw some.0 (λ none. omega (arith, is, some.1, length-drop at bytes, ap length none))
      | inr none ↦ rw none.0 (drop_all at bytes (omega (arith, is, none.1)))
    ]

-- the sink took the front of what waits
pub forwards_front : (a b c : Option (List ℕ)) (v bytes : List ℕ) (at count : ℕ) → Forwards a b v (drop at bytes) [] → Appends b c (take count (drop at bytes)) → Forwards a c v (drop (at + count) bytes) []
forwards_front a b c v bytes at count f took =
    let rest = drop at bytes in (
      f.0 ++ take count rest,
      Appends-trans a b c f.0 (take count rest) f.1 took,
      rw (← drop-drop count at bytes, append_assoc f.0 (take count rest) (drop count rest), take-append-drop count rest) f.2,
    )

-- a text that goes straight on
pub forwards_on : (a b c : Option (List ℕ)) (u v w x text : List ℕ) → v ≡ u → Forwards a b v w [] → w ≡ [] → x ≡ w → Appends b c text → Forwards a c u x text
forwards_on a b c u v w x text same f none still wrote =
    let sent : f.0 ≡ u = sym (append-nil f.0) ∙ ap (λ now. f.0 ++ now) (sym none) ∙ f.2 ∙ append-nil v ∙ same in
    (f.0 ++ text, Appends-trans a b c f.0 text f.1 wrote, ap (λ now. (f.0 ++ text) ++ now) (still ∙ none) ∙ append-nil (f.0 ++ text) ∙ ap (λ now. now ++ text) sent)

-- what was sent before changes nothing
advances_behind : {M : Type 0} {gives : Gives M} (sent v w : List ℕ) (p q : Place M) (bs : List ℕ) → Advances gives (Some v) (Some w) p bs q
    → Advances gives (Some (sent ++ v)) (Some (sent ++ w)) p bs q
advances_behind sent v w p q bs step = (step.0, step.1, rw (step.2, append_assoc sent v step.0) refl, step.3)

stops_behind : {M : Type 0} (gives : Gives M) (refuses : Refuses M) (most : ℕ) (sent v w : List ℕ) (p : Place M) (new : M) (bs : List ℕ) (status : Status)
    → Stops gives refuses most (Some v) (Some w) p new bs status → Stops gives refuses most (Some (sent ++ v)) (Some (sent ++ w)) p new bs status
stops_behind gives refuses most sent v w p new bs status stop = (stop.0, stop.1, rw (stop.2, append_assoc sent v stop.0) refl, stop.3)

-- ---- what bytes do

pub gathers_none : {M : Type 0} {gives : Gives M} (a : Option (List ℕ)) (w : List ℕ) (p : Place M) → Gathers gives a a w w p [] p
gathers_none a w p = ([], Appends-nil a, advances_none (Some w) p)

-- what waited was sent, or a part of it
gathers_sent : {M : Type 0} {gives : Gives M} (a b : Option (List ℕ)) (w x : List ℕ) (p : Place M) → Forwards a b w x [] → Gathers gives a b w x p [] p
gathers_sent a b w x p f = (f.0, f.1, ([], [], f.2, λ start read report outside s. rw (append-nil read, append-nil report, append-nil outside) s))

-- a byte that is no newline
pub byte_gathers : {M : Type 0} {gives : Gives M} (a : Option (List ℕ)) (w : List ℕ) (p q : Place M) (b : ℕ) → HasRoom p.pending p.lines p.bytes → b ≢ 10
    → q.state ≡ p.state → q.pending ≡ p.pending ++ b ∷ [] → q.lines ≡ p.lines → q.bytes ≡ p.bytes + 1 → Gathers gives a a w w p (b ∷ []) q
byte_gathers a w p q b free differs state pending count bytes = ([], Appends-nil a, byte_advances (Some w) p q b free differs state pending count bytes)

-- a newline
pub line_gathers : {M : Type 0} {gives : Gives M} (a b : Option (List ℕ)) (w x : List ℕ) (p q : Place M) (text : List ℕ) (answered : List (List ℕ)) → HasRoom p.pending p.lines p.bytes
    → Forwards a b w x text → gives p.state (strip_carriage_return p.pending) text answered q.state → q.pending ≡ [] → q.lines ≡ p.lines + 1 → q.bytes ≡ p.bytes + 1
    → Gathers gives a b w x p (10 ∷ []) q
line_gathers a b w x p q text answered free f gives pending count bytes =
    (f.0, f.1, line_advances (Some w) (Some (f.0 ++ x)) p q text answered free f.2 gives pending count bytes)

pub full_halts : {M : Type 0} (gives : Gives M) (refuses : Refuses M) (a : Option (List ℕ)) (w : List ℕ) (p : Place M) (b : ℕ) → IsFull p.pending p.lines p.bytes
    → Halts gives refuses a a w w p p.state (b ∷ []) TooLong
full_halts gives refuses a w p b passed = inl ([], Appends-nil a, full_stops gives refuses (Some w) p b passed, λ bay. cc)

pub memory_halts : {M : Type 0} (gives : Gives M) (refuses : Refuses M) (a : Option (List ℕ)) (w : List ℕ) (p : Place M) (bs : List ℕ) → Halts gives refuses a a w w p p.state bs Memory
memory_halts gives refuses a w p bs = inl ([], Appends-nil a, memory_stops gives refuses (Some w) (Some w) p bs (Appends-nil (Some w)), λ bay. cc)

pub line_halts : {M : Type 0} (gives : Gives M) (refuses : Refuses M) (a b : Option (List ℕ)) (w x : List ℕ) (p : Place M) (new : M) (status : Status) → HasRoom p.pending p.lines p.bytes
    → LineHalts gives refuses a b w x p.state new (strip_carriage_return p.pending) (p.lines + 1) status → Halts gives refuses a b w x p new (10 ∷ []) status
line_halts gives refuses a b w x p new status free (inl h) = inl (h.0, h.1, line_stops gives refuses (Some w) (Some (h.0 ++ x)) p new status free h.2, h.3)
line_halts gives refuses a b w x p new status free (inr h) = inr ([], 10 ∷ [], p, h.0, h.1, h.2, refl, gathers_sent a b w x p h.3)

pub gathers_more : {M : Type 0} {gives : Gives M} (a b c : Option (List ℕ)) (v w x : List ℕ) (p q r : Place M) (bs cs : List ℕ)
    → Gathers gives a b v w p bs q → Gathers gives b c w x q cs r → Gathers gives a c v x p (bs ++ cs) r
gathers_more {gives = gives} a b c v w x p q r bs cs f g =
    let Step : List ℕ → Type 0 = λ now. Advances gives (Some v) (Some now) p (bs ++ cs) r in (
      f.0 ++ g.0,
      Appends-trans a b c f.0 g.0 f.1 g.1,
      subst Step (sym (append_assoc f.0 g.0 x))
          (advances_more (Some v) (Some (f.0 ++ w)) (Some (f.0 ++ (g.0 ++ x))) p q r bs cs f.2 (advances_behind f.0 w (g.0 ++ x) q r cs g.2)),
    )

pub gathers_stop : {M : Type 0} (gives : Gives M) (refuses : Refuses M) (a b c : Option (List ℕ)) (v w x : List ℕ) (p q : Place M) (new : M) (bs cs more all : List ℕ) (status : Status)
    → Gathers gives a b v w p bs q → Halts gives refuses b c w x q new cs status → all ≡ (bs ++ cs) ++ more → Halts gives refuses a c v x p new all status
gathers_stop gives refuses a b c v w x p q new bs cs more all status f (inl h) e =
    let Stop : List ℕ → Type 0 = λ now. Stops gives refuses 0 (Some v) (Some now) p new all status in
    inl (
      f.0 ++ h.0,
      Appends-trans a b c f.0 h.0 f.1 h.1,
      subst Stop (sym (append_assoc f.0 h.0 x))
          (advances_stop gives refuses 0 (Some v) (Some (f.0 ++ w)) (Some (f.0 ++ (h.0 ++ x))) p q new bs cs more all status f.2 (stops_behind gives refuses 0 f.0 w (h.0 ++ x) q new cs status h.2) e),
      h.3,
    )
gathers_stop gives refuses a b c v w x p q new bs cs more all status f (inr h) e =
    let split : all ≡ (bs ++ h.0) ++ (h.1 ++ more) =
    e ∙ ap (λ now. (bs ++ now) ++ more) h.6 ∙ ap (λ now. now ++ more) (sym (append_assoc bs h.0 h.1)) ∙ append_assoc (bs ++ h.0) h.1 more in
    inr (bs ++ h.0, h.1 ++ more, h.2, h.3, h.4, h.5, split, gathers_more a b c v w x p q h.2 bs h.0 f h.7)

-- ---- the last line of those that ran

record LastRan {M : Type 0} (gives : Gives M) (old new : M) (ls : List (List ℕ)) (report : List ℕ) (outside : List (List ℕ)) : Type 0 where
  before : List (List ℕ)
  line : List ℕ
  same : ls ≡ before ++ line ∷ []
  earlier : List ℕ
  answers : List (List ℕ)
  state : M
  runs : Runs gives old before earlier answers state
  text : List ℕ
  answered : List (List ℕ)
  did : gives state line text answered new
  whole : report ≡ earlier ++ text
  said : outside ≡ answers ++ answered

last_ran : {M : Type 0} (gives : Gives M) (old new : M) (l : List ℕ) (more : List (List ℕ)) (report : List ℕ) (outside : List (List ℕ))
    → Runs gives old (l ∷ more) report outside new → LastRan gives old new (l ∷ more) report outside
last_ran {M} gives old new l [] report outside run =
    let Did : M → Type 0 = λ state. gives old l run.1 run.3 state in
    record {
      before = [];
      line = l;
      same = refl;
      earlier = [];
      answers = [];
      state = old;
      runs = (refl, refl, refl);
      text = run.1;
      answered = run.3;
      did = subst Did (sym run.6.2) run.5;
      whole = rw (run.7, run.6.0, append-nil run.1) refl;
      said = rw (run.8, run.6.1, append-nil run.3) refl;
    }
last_ran gives old new l (m ∷ more) report outside run =
    let rest = last_ran gives run.0 new m more run.2 run.4 run.6 in
    record {
      before = l ∷ rest.before;
      line = rest.line;
      same = ap (λ ls. l ∷ ls) rest.same;
      earlier = run.1 ++ rest.earlier;
      answers = run.3 ++ rest.answers;
      state = rest.state;
      runs = (run.0, run.1, rest.earlier, run.3, rest.answers, run.5, rest.runs, refl, refl);
      text = rest.text;
      answered = rest.answered;
      did = rest.did;
      whole = run.7 ∙ ap (λ now. run.1 ++ now) rest.whole ∙ sym (append_assoc run.1 rest.earlier rest.text);
      said = run.8 ∙ ap (λ now. run.3 ++ now) rest.said ∙ sym (append_assoc run.3 rest.answers rest.answered);
    }

-- ---- a report that wasn't written whole

-- of the replies to the lines before the last so many bytes are missing at most
abbrev IsBroken : {M : Type 0} → Gives M → M → ℕ → List ℕ → List ℕ → List ℕ → List ℕ → List (List ℕ) → M → Type 0
IsBroken gives start most read front rest written outside new =
    (broke : BrokeOff gives start false read front rest written outside new) × (length broke.report ≤ length written + most)

ran_broke_at : {M : Type 0} {gives : Gives M} {start : M} (read front rest report written missing : List ℕ) (outside ls : List (List ℕ)) (new : M)
    → Ran gives start false read front rest report outside new → lines front ≡ ls → Runs gives start ls report outside new → report ≡ written ++ missing → missing ≢ [] → length missing ≤ 65536
    → IsBroken gives start 65536 read front rest written outside new
ran_broke_at read front rest report [] missing outside [] new ran are run e some few = absurd (some (sym e ∙ run.0))
ran_broke_at read front rest report (b ∷ written) missing outside [] new ran are run e some few = let no : [] ≡ b ∷ (written ++ missing) = sym run.0 ∙ e in cc
ran_broke_at {gives = gives} {start = start} read front rest report written missing outside (l ∷ more) new ran are run e some few =
    let last = last_ran gives start new l more report outside run in
    let sizes : length (last.earlier ++ last.text) ≡ length (written ++ missing) = ap length (sym last.whole ∙ e) in
    let late : length last.earlier ≤ length written + 65536 = omega (arith, sizes, length-append last.earlier last.text, length-append written missing, few) in (
      record {
        split = ran.split;
        whole = ran.whole;
        within = ran.within;
        before = last.before;
        line = last.line;
        same = are ∙ last.same;
        report = last.earlier;
        answers = last.answers;
        state = last.state;
        runs = last.runs;
        text = last.text;
        answered = last.answered;
        did = last.did;
        missing = missing;
        some = some;
        wrote = sym last.whole ∙ e;
        late = late;
        said = last.said;
      },
      late,
    )

ran_broke : {M : Type 0} {gives : Gives M} {start : M} (read front rest report written missing : List ℕ) (outside : List (List ℕ)) (new : M)
    → Ran gives start false read front rest report outside new → report ≡ written ++ missing → missing ≢ [] → length missing ≤ 65536
    → IsBroken gives start 65536 read front rest written outside new
ran_broke read front rest report written missing outside new ran e some few = ran_broke_at read front rest report written missing outside (lines front) new ran refl ran.runs e some few

some_before : (xs ys : List ℕ) → ys ≢ [] → xs ++ ys ≢ []
some_before [] ys some none = some none
some_before (x ∷ xs) ys some none = cc

-- what was gathered is missing too
broke_earlier : {M : Type 0} {gives : Gives M} {start : M} (read front rest all written left : List ℕ) (outside : List (List ℕ)) (new : M)
    → IsBroken gives start 0 read front rest all outside new → all ≡ written ++ left → length left ≤ 65536
    → IsBroken gives start 65536 read front rest written outside new
broke_earlier read front rest all written left outside new (b, whole) e few =
    let late : length b.report ≤ length written + 65536 = omega (arith, whole, ap length e, length-append written left, few) in (
      record {
        split = b.split;
        whole = b.whole;
        within = b.within;
        before = b.before;
        line = b.line;
        same = b.same;
        report = b.report;
        answers = b.answers;
        state = b.state;
        runs = b.runs;
        text = b.text;
        answered = b.answered;
        did = b.did;
        missing = left ++ b.missing;
        some = some_before left b.missing b.some;
        wrote = rw (b.wrote, e, append_assoc written left b.missing) refl;
        late = late;
        said = b.said;
      },
      late,
    )

-- ---- the end of a piece

-- what lines gave went to the sink, but for what is left
sent_text : (sent more left v w text : List ℕ) → v ≡ [] → sent ++ w ≡ v ++ text → more ++ left ≡ w ++ [] → text ≡ (sent ++ more) ++ left
sent_text sent more left v w text none e f =
    ap (λ now. now ++ text) (sym none) ∙ sym e ∙ ap (λ now. sent ++ now) (sym (f ∙ append-nil w)) ∙ sym (append_assoc sent more left)

pub flush_advances : {M : Type 0} {gives : Gives M} (a b c : Option (List ℕ)) (v w left : List ℕ) (p q : Place M) (bs : List ℕ) → v ≡ []
    → Gathers gives a b v w p bs q → Forwards b c w left [] → left ≡ [] → Advances gives a c p bs q
flush_advances {gives = gives} a b c v w left p q bs first g f none =
    let text : g.2.0 ≡ g.0 ++ f.0 = sent_text g.0 f.0 left v w g.2.0 first g.2.2 f.2 ∙ ap (λ now. (g.0 ++ f.0) ++ now) none ∙ append-nil (g.0 ++ f.0) in (
      g.0 ++ f.0,
      g.2.1,
      Appends-trans a b c g.0 f.0 g.1 f.1,
      λ start read report outside s.
          let Stood : List ℕ → Type 0 = λ now. Stands gives start (read ++ bs) (report ++ now) (outside ++ g.2.1) q in
          subst Stood text (g.2.3 start read report outside s),
    )

pub flush_stops : {M : Type 0} (gives : Gives M) (refuses : Refuses M) (a b c : Option (List ℕ)) (v w left : List ℕ) (p q : Place M) (bs : List ℕ) → v ≡ []
    → Gathers gives a b v w p bs q → Forwards b c w left [] → left ≢ [] → length left ≤ 65536 → Stops gives refuses 65536 a c p q.state bs SinkFault
flush_stops gives refuses a b c v w left p q bs first g f some few = (
  g.0 ++ f.0,
  g.2.1,
  Appends-trans a b c g.0 f.0 g.1 f.1,
  λ start read report outside s.
      let stood = g.2.3 start read report outside s in
      let whole : report ++ g.2.0 ≡ (report ++ (g.0 ++ f.0)) ++ left = ap (λ now. report ++ now) (sent_text g.0 f.0 left v w g.2.0 first g.2.2 f.2) ∙ sym (append_assoc report (g.0 ++ f.0) left) in
      let broke = ran_broke (read ++ bs) stood.front q.pending (report ++ g.2.0) (report ++ (g.0 ++ f.0)) left (outside ++ g.2.1) q.state stood.ran whole some few in
      (stood.front, q.pending, broke.0, broke.1),
)

-- a run that ends with a status, where something was left
among_closed : {M : Type 0} (gives : Gives M) (refuses : Refuses M) (start new : M) (read all written waited left : List ℕ) (outside : List (List ℕ)) (status last : Status)
    → StopsAmong gives refuses 0 start new read all outside status → all ≡ written ++ left → length left ≤ 65536 → (status ≡ BayFault → left ≡ []) → Closes status waited left last
    → StopsAmong gives refuses 65536 start new read written outside last
among_closed gives refuses start new read all written waited left outside Done last h e few none close = absurd h
among_closed gives refuses start new read all written waited left outside Usage last h e few none close = absurd h
among_closed gives refuses start new read all written waited left outside SourceFault last h e few none close = absurd h
among_closed gives refuses start new read all written waited left outside (Script line column kind) last h e few none (inl c) =
    let Among : Status → Type 0 = λ s. StopsAmong gives refuses 65536 start new read written outside s in
    let Wrote : List ℕ → Type 0 = λ now. StopsAmong gives refuses 65536 start new read now outside (Script line column kind) in
    subst Among (sym c.0) (subst Wrote (e ∙ rw (c.1, append-nil written) refl) h)
among_closed gives refuses start new read all written waited left outside (Script line column kind) last h e few none (inr c) =
    let Among : Status → Type 0 = λ s. StopsAmong gives refuses 65536 start new read written outside s in
    let broke = ran_broke read h.0 h.1 all written left outside new h.3 e c.1 few in
    subst Among (sym c.0) (h.0, h.1, broke.0, broke.1)
among_closed gives refuses start new read all written waited left outside TooLong last h e few none (inl c) =
    let Among : Status → Type 0 = λ s. StopsAmong gives refuses 65536 start new read written outside s in
    let Wrote : List ℕ → Type 0 = λ now. StopsAmong gives refuses 65536 start new read now outside TooLong in
    subst Among (sym c.0) (subst Wrote (e ∙ rw (c.1, append-nil written) refl) h)
among_closed gives refuses start new read all written waited left outside TooLong last h e few none (inr c) =
    let Among : Status → Type 0 = λ s. StopsAmong gives refuses 65536 start new read written outside s in
    let broke = ran_broke read h.0 h.1 all written left outside new h.2 e c.1 few in
    subst Among (sym c.0) (h.0, h.1, broke.0, broke.1)
among_closed gives refuses start new read all written waited left outside SinkFault last h e few none close =
    let Among : Status → Type 0 = λ s. StopsAmong gives refuses 65536 start new read written outside s in
    let broke = broke_earlier read h.0 h.1 all written left outside new (h.2, h.3) e few in
    subst Among (sym close.0) (h.0, h.1, broke.0, broke.1)
among_closed gives refuses start new read all written waited left outside BayFault last h e few none close =
    let Among : Status → Type 0 = λ s. StopsAmong gives refuses 65536 start new read written outside s in
    let Wrote : List ℕ → Type 0 = λ now. StopsAmong gives refuses 65536 start new read now outside BayFault in
    subst Among (sym close.0) (subst Wrote (e ∙ rw (none refl, append-nil written) refl) h)
among_closed gives refuses start new read all written waited left outside Memory last h e few none close =
    let Among : Status → Type 0 = λ s. StopsAmong gives refuses 65536 start new read written outside s in
    let cut = h.4 in
    subst Among (sym close) (h.0, h.1, h.2, h.3, (left ++ cut.0, rw (cut.1, e, append_assoc written left cut.0) refl))

-- nothing waits behind what was sent where nothing waited
none_wait : (sent w left : List ℕ) → w ≡ [] → sent ++ left ≡ w ++ [] → (sent ≡ []) × (left ≡ [])
none_wait [] w left none e = (refl, e ∙ append-nil w ∙ none)
none_wait (x ∷ sent) w left none e = let no : x ∷ (sent ++ left) ≡ [] = e ∙ append-nil w ∙ none in cc

-- where the sink refused, what waited is left
closed_left : (status last : Status) (waited left : List ℕ) → status ≡ SinkFault → Closes status waited left last → (last ≡ SinkFault) × (left ≡ waited)
closed_left status last waited left is close = let Close : Status → Type 0 = λ s. Closes s waited left last in subst Close is close

-- a run that ended with no fault of the bay and no want of memory left the machine where it was
pub leaves_same : {M : Type 0} {breaks : Breaks M} (end : M) (status : Status) → status ≢ BayFault → Leaves breaks end end status
leaves_same end status other = record { same = λ memory bay. refl; broken = λ bay. absurd (other bay) }

-- what a run leaves, it leaves whatever the sink takes of the last replies
pub closed_leaves : {M : Type 0} {breaks : Breaks M} (end new : M) (waited left : List ℕ) (status last : Status) → Closes status waited left last → Leaves breaks end new status → Leaves breaks end new last
closed_leaves end new waited left status last close leaves = record {
  same = λ memory bay. leaves.same (λ e. memory (of_memory (subst (λ s. Closes s waited left last) e close))) (λ e. bay (of_bay (subst (λ s. Closes s waited left last) e close)));
  broken = λ e. leaves.broken (to_bay status (subst (λ s. Closes status waited left s) e close));
}
  where
    of_memory : Closes Memory waited left last → last ≡ Memory
    of_memory c = c

    of_bay : Closes BayFault waited left last → last ≡ BayFault
    of_bay c = c.0

    to_bay : (status : Status) → Closes status waited left BayFault → status ≡ BayFault
    to_bay BayFault c = refl
    to_bay SinkFault c = let no = c.0 in cc
    to_bay Memory c = let no : BayFault ≡ Memory = c in cc
    to_bay Done (inl c) = sym c.0
    to_bay Done (inr c) = let no = c.0 in cc
    to_bay Usage (inl c) = sym c.0
    to_bay Usage (inr c) = let no = c.0 in cc
    to_bay SourceFault (inl c) = sym c.0
    to_bay SourceFault (inr c) = let no = c.0 in cc
    to_bay TooLong (inl c) = sym c.0
    to_bay TooLong (inr c) = let no = c.0 in cc
    to_bay (Script line column kind) (inl c) = sym c.0
    to_bay (Script line column kind) (inr c) = let no = c.0 in cc

pub close_stops : {M : Type 0} (gives : Gives M) (refuses : Refuses M) (a b c : Option (List ℕ)) (v w left : List ℕ) (p : Place M) (new : M) (bs : List ℕ) (status last : Status) → v ≡ []
    → Halts gives refuses a b v w p new bs status → Forwards b c w left [] → length left ≤ 65536 → Closes status w left last → Stops gives refuses 65536 a c p new bs last
close_stops gives refuses a b c v w left p new bs status last first (inl h) f few close = (
  h.0 ++ f.0,
  h.2.1,
  Appends-trans a b c h.0 f.0 h.1 f.1,
  λ start read report outside s.
      let whole : report ++ h.2.0 ≡ (report ++ (h.0 ++ f.0)) ++ left = ap (λ now. report ++ now) (sent_text h.0 f.0 left v w h.2.0 first h.2.2 f.2) ∙ sym (append_assoc report (h.0 ++ f.0) left) in
      among_closed gives refuses start new (read ++ bs) (report ++ h.2.0) (report ++ (h.0 ++ f.0)) w left (outside ++ h.2.1) status last (h.2.3 start read report outside s) whole few (λ bay. (none_wait f.0 w left (h.3 bay) f.2).1) close,
)
close_stops {M = M} gives refuses a b c v w left p new bs status last first (inr h) f few close =
    let closed = closed_left status last w left h.3 close in
    let Ended : M → Status → Type 0 = λ state s. Stops gives refuses 65536 a c p state bs s in
    let some : left ≢ [] = λ none. h.5 (sym closed.1 ∙ none) in
    let there = flush_stops gives refuses a b c v w left p h.2 h.0 first h.7 f some few in
    let here : Ended h.2.state SinkFault = advances_stop gives refuses 65536 a a c p p h.2.state [] h.0 h.1 bs SinkFault (advances_none a p) there h.6 in
    subst (λ state. Ended state last) (sym h.4) (subst (Ended h.2.state) (sym closed.0) here)

-- ---- the last line

-- what ends the run at a line, where no reply waited before
line_sent : {M : Type 0} (gives : Gives M) (refuses : Refuses M) (a b : Option (List ℕ)) (v w : List ℕ) (old new : M) (line : List ℕ) (number : ℕ) (status : Status) → v ≡ []
    → LineHalts gives refuses a b v w old new line number status → LineStops gives refuses a b old new line number status
line_sent gives refuses a b v w old new line number Done first (inl h) = absurd h.2
line_sent gives refuses a b v w old new line number Usage first (inl h) = absurd h.2
line_sent gives refuses a b v w old new line number SourceFault first (inl h) = absurd h.2
line_sent gives refuses a b v w old new line number TooLong first (inl h) = absurd h.2
line_sent gives refuses a b v w old new line number (Script at column kind) first (inl h) =
    let Sent : List ℕ → Type 0 = λ sent. Appends a b sent in
    (subst Sent (none_wait h.0 v w first h.2.0).0 h.1, h.2.1, h.2.2, h.2.3)
line_sent gives refuses a b v w old new line number BayFault first (inl h) =
    let Sent : List ℕ → Type 0 = λ sent. Appends a b sent in
    (subst Sent (none_wait h.0 v w first h.2.0).0 h.1, h.2.1)
line_sent gives refuses a b v w old new line number Memory first (inl h) =
    let Sent : List ℕ → Type 0 = λ sent. Appends a b sent in
    (subst Sent (none_wait h.0 v w first h.2.0).0 h.1, h.2.1)
line_sent gives refuses a b v w old new line number SinkFault first (inl h) =
    let stop = h.2 in
    let part = stop.0 in
    let missing = stop.1 in
    let whole : part ≡ h.0 ++ w = ap (λ now. now ++ part) (sym first) ∙ sym stop.5 in
    let same : part ++ missing ≡ h.0 ++ (w ++ missing) = ap (λ now. now ++ missing) whole ∙ append_assoc h.0 w missing in
    let Did : List ℕ → Type 0 = λ text. gives old line text stop.2 new in
    (h.0, w ++ missing, stop.2, subst Did same stop.3, some_before w missing stop.4, h.1)
line_sent gives refuses a b v w old new line number status first (inr h) = absurd (h.2 (none_wait h.3.0 v w first h.3.2).1)

pub halt_ends : {M : Type 0} (gives : Gives M) (refuses : Refuses M) (a b : Option (List ℕ)) (v w : List ℕ) (p : Place M) (new : M) (status : Status) → p.pending ≢ [] → v ≡ []
    → LineHalts gives refuses a b v w p.state new p.pending (p.lines + 1) status → Ends gives refuses a b p new status
halt_ends gives refuses a b v w p new status some first h =
    ends_stop gives refuses a b p new status some (line_sent gives refuses a b v w p.state new p.pending (p.lines + 1) status first h)

pub line_ends : {M : Type 0} (gives : Gives M) (refuses : Refuses M) (a b c : Option (List ℕ)) (v w left : List ℕ) (p : Place M) (text : List ℕ) (answered : List (List ℕ)) (new : M) (last : Status)
    → p.pending ≢ [] → v ≡ [] → Forwards a b v w text → gives p.state p.pending text answered new → Forwards b c w left [] → IsClosed Done left last → Ends gives refuses a c p new last
line_ends gives refuses a b c v w left p text answered new last some first f did g (inl done) =
    let Did : List ℕ → Type 0 = λ now. gives p.state p.pending now answered new in
    let Ended : Status → Type 0 = λ s. Ends gives refuses a c p new s in
    let whole : text ≡ f.0 ++ g.0 = sent_text f.0 g.0 left v w text first f.2 g.2 ∙ ap (λ now. (f.0 ++ g.0) ++ now) done.1 ∙ append-nil (f.0 ++ g.0) in
    subst Ended (sym done.0) (ends_last gives refuses a c p (f.0 ++ g.0) answered new some (Appends-trans a b c f.0 g.0 f.1 g.1) (subst Did whole did))
line_ends gives refuses a b c v w left p text answered new last some first f did g (inr fault) =
    let Did : List ℕ → Type 0 = λ now. gives p.state p.pending now answered new in
    let Ended : Status → Type 0 = λ s. Ends gives refuses a c p new s in
    subst Ended (sym fault.0) (ends_stop gives refuses a c p new SinkFault some
    (f.0 ++ g.0, left, answered, subst Did (sent_text f.0 g.0 left v w text first f.2 g.2) did, fault.1, Appends-trans a b c f.0 g.0 f.1 g.1))
