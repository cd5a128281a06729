-- Pieces of a script, one after another, and its end.
use Rattle.std.proofs.Common.{◌≡◌, ◌≢◌, ℕ, ◌+◌, Bool, true, false, List, [], ◌∷◌, ◌++◌, length, eqb, refl, sym, ap, ◌∙◌, append_assoc, inl, inr, arith, length-append, Option}
use Rattle.std.specs.Str.Lines.{lines, strip_carriage_return}
use Rattle.std.specs.Io.KnownBytes.{Appends}
use Rattle.std.proofs.lemmas.List.{append-nil}
use Rattle.std.proofs.lemmas.Bool.{false≢true, eqb-false}
use Rattle.std.proofs.Math.Dec.{eqb-suc-zero}
use Rattle.std.proofs.KnownBytes.{Appends-nil, Appends-trans}
use Rattle.coda_engine.specs.Machine.{Gives, Refuses}
use Rattle.coda_engine.specs.Run.{Ran, BrokeOff, IsNext, Answers}
use Rattle.coda_engine.specs.Reading.{Place, HasRoom, IsFull, Stands, StopsAmong, Advances, Stops, Ends, LineStops}
use Rattle.coda_engine.specs.declared.status.Status.{Status}
use Rattle.coda_engine.specs.declared.status.Status.TheVariants.{Done, Usage, Script, SourceFault, SinkFault, TooLong, BayFault, Memory}
use Rattle.coda_engine.proofs.Splitting.{lines-more, lines-last}
use Rattle.coda_engine.proofs.Standing.{runs_more, whole_of, ran_more, stands_byte, stands_line, stop_long, stop_script, stop_sink, stop_bay, stop_memory}

pub advances_none : {M : Type 0} {gives : Gives M} (a : Option (List ℕ)) (p : Place M) → Advances gives a a p [] p
advances_none a p = ([], [], Appends-nil a, λ start read report outside s. rw (append-nil read, append-nil report, append-nil outside) s)

pub advances_more : {M : Type 0} {gives : Gives M} (a b c : Option (List ℕ)) (p q r : Place M) (bs cs : List ℕ)
    → Advances gives a b p bs q → Advances gives b c q cs r → Advances gives a c p (bs ++ cs) r
advances_more a b c p q r bs cs first then = (
  first.0 ++ then.0,
  first.1 ++ then.1,
  Appends-trans a b c first.0 then.0 first.2 then.2,
  λ start read report outside s. rw (← append_assoc read bs cs, ← append_assoc report first.0 then.0, ← append_assoc outside first.1 then.1)
      (then.3 start (read ++ bs) (report ++ first.0) (outside ++ first.1) (first.3 start read report outside s)),
)

-- the reply that was written in part stays so, whatever was read besides
broke_more : {M : Type 0} {gives : Gives M} {start : M} (read front rest written more : List ℕ) (outside : List (List ℕ)) (new : M)
    → BrokeOff gives start false read front rest written outside new → BrokeOff gives start false (read ++ more) front (rest ++ more) written outside new
broke_more read front rest written more outside new b = record {
  split = rw (b.split, append_assoc front rest more) refl;
  whole = elim b.whole [ inl whole ↦ inl whole | inr ended ↦ absurd (false≢true ended.0) ];
  within = b.within;
  before = b.before;
  line = b.line;
  same = b.same;
  report = b.report;
  answers = b.answers;
  state = b.state;
  runs = b.runs;
  text = b.text;
  answered = b.answered;
  did = b.did;
  missing = b.missing;
  some = b.some;
  wrote = b.wrote;
  late = b.late;
  said = b.said;
}

-- the line that is next stays so, whatever was read besides
next_more : (front rest more line : List ℕ) → IsNext false front rest line → IsNext false front (rest ++ more) line
next_more front rest more line (inl n) = inl (n.0, n.1 ++ more, rw (n.2, append_assoc n.0 (10 ∷ n.1) more) refl, n.3, n.4, n.5)
next_more front rest more line (inr n) = absurd (false≢true n.0)

next_all : (all : Bool) (front rest line : List ℕ) → IsNext false front rest line → IsNext all front rest line
next_all all front rest line (inl n) = inl n
next_all all front rest line (inr n) = absurd (false≢true n.0)

-- what ends a run among these bytes ends it among these and more
pub stops_more : {M : Type 0} (gives : Gives M) (refuses : Refuses M) (most : ℕ) (start new : M) (read written more : List ℕ) (outside : List (List ℕ)) (status : Status)
    → StopsAmong gives refuses most start new read written outside status → StopsAmong gives refuses most start new (read ++ more) written outside status
unfolding broke_more
stops_more gives refuses most start new read written more outside Done h = absurd h
stops_more gives refuses most start new read written more outside Usage h = absurd h
stops_more gives refuses most start new read written more outside SourceFault h = absurd h
stops_more gives refuses most start new read written more outside (Script line column kind) h = (
  h.0,
  h.1 ++ more,
  h.2,
  ran_more false read h.0 h.1 written more outside new h.3,
  next_more h.0 h.1 more h.2 h.4,
  h.5,
  h.6,
)
stops_more gives refuses most start new read written more outside TooLong h = (
  h.0,
  h.1 ++ more,
  ran_more false read h.0 h.1 written more outside new h.2,
  (h.3.0, h.3.1, h.3.2 ++ more, rw (h.3.3, append_assoc h.3.0 (h.3.1 ∷ h.3.2) more) refl, h.3.4, h.3.5, h.3.6),
)
stops_more gives refuses most start new read written more outside SinkFault h = (h.0, h.1 ++ more, broke_more read h.0 h.1 written more outside new h.2, h.3)
stops_more gives refuses most start new read written more outside BayFault h =
    (h.0, h.1 ++ more, h.2, ran_more false read h.0 h.1 written more outside new h.3, next_more h.0 h.1 more h.2 h.4)
stops_more gives refuses most start new read written more outside Memory h =
    (h.0, h.1 ++ more, h.2, ran_more false read h.0 h.1 h.2 more outside new h.3, h.4)

pub advances_stop : {M : Type 0} (gives : Gives M) (refuses : Refuses M) (most : ℕ) (a b c : Option (List ℕ)) (p q : Place M) (new : M) (bs cs more all : List ℕ) (status : Status)
    → Advances gives a b p bs q → Stops gives refuses most b c q new cs status → all ≡ (bs ++ cs) ++ more → Stops gives refuses most a c p new all status
advances_stop gives refuses most a b c p q new bs cs more all status first stop e = (
  first.0 ++ stop.0,
  first.1 ++ stop.1,
  Appends-trans a b c first.0 stop.0 first.2 stop.2,
  λ start read report outside s.
      rw (e, ← append_assoc read (bs ++ cs) more, ← append_assoc read bs cs, ← append_assoc report first.0 stop.0, ← append_assoc outside first.1 stop.1)
      (stops_more gives refuses most start new ((read ++ bs) ++ cs) ((report ++ first.0) ++ stop.0) more ((outside ++ first.1) ++ stop.1) status
      (stop.3 start (read ++ bs) (report ++ first.0) (outside ++ first.1) (first.3 start read report outside s))),
)

ran_all : {M : Type 0} {gives : Gives M} {start : M} (all : Bool) (read front rest report : List ℕ) (outside : List (List ℕ)) (state : M)
    → Ran gives start false read front rest report outside state → Ran gives start all read front rest report outside state
ran_all all read front rest report outside state ran = record { split = ran.split; whole = inl (whole_of ran); within = ran.within; runs = ran.runs }

broke_all : {M : Type 0} {gives : Gives M} {start : M} (all : Bool) (read front rest written : List ℕ) (outside : List (List ℕ)) (new : M)
    → BrokeOff gives start false read front rest written outside new → BrokeOff gives start all read front rest written outside new
broke_all all read front rest written outside new b = record {
  split = b.split;
  whole = elim b.whole [ inl whole ↦ inl whole | inr ended ↦ absurd (false≢true ended.0) ];
  within = b.within;
  before = b.before;
  line = b.line;
  same = b.same;
  report = b.report;
  answers = b.answers;
  state = b.state;
  runs = b.runs;
  text = b.text;
  answered = b.answered;
  did = b.did;
  missing = b.missing;
  some = b.some;
  wrote = b.wrote;
  late = b.late;
  said = b.said;
}

-- a run that ended on the way has its status whatever came after
pub answers_all : {M : Type 0} (gives : Gives M) (refuses : Refuses M) (most : ℕ) (start new : M) (all : Bool) (read written : List ℕ) (outside : List (List ℕ)) (status : Status)
    → StopsAmong gives refuses most start new read written outside status → Answers gives refuses start new all read written outside status
answers_all gives refuses most start new all read written outside Done h = absurd h
answers_all gives refuses most start new all read written outside Usage h = absurd h
answers_all gives refuses most start new all read written outside SourceFault h = absurd h
answers_all gives refuses most start new all read written outside (Script line column kind) h =
    (h.0, h.1, h.2, h.3, next_all all h.0 h.1 h.2 h.4, h.5, h.6)
answers_all gives refuses most start new all read written outside TooLong h = h
answers_all gives refuses most start new all read written outside SinkFault h = (h.0, h.1, broke_all all read h.0 h.1 written outside new h.2)
answers_all gives refuses most start new all read written outside BayFault h = (h.0, h.1, h.2, h.3, next_all all h.0 h.1 h.2 h.4)
answers_all gives refuses most start new all read written outside Memory h = (h.0, h.1, h.2, ran_all all read h.0 h.1 h.2 outside new h.3, h.4)

-- a list of no length is empty, and others aren't
pub none_of : (xs : List ℕ) → true ≡ eqb (length xs) 0 → xs ≡ []
none_of [] e = refl
none_of (x ∷ xs) e = absurd (false≢true (sym (eqb-suc-zero (length xs)) ∙ sym e))

pub some_of : (xs : List ℕ) → false ≡ eqb (length xs) 0 → xs ≢ []
some_of xs e none = eqb-false (length xs) 0 (sym e) (ap length none)

-- nothing is left of a line
pub ends_empty : {M : Type 0} (gives : Gives M) (refuses : Refuses M) (a : Option (List ℕ)) (p : Place M) → p.pending ≡ [] → Ends gives refuses a a p p.state Done
ends_empty gives refuses a p none = (
  [],
  [],
  Appends-nil a,
  λ start read report outside s.
      let same : read ≡ s.front = s.ran.split ∙ (rw none (append-nil s.front)) in
      rw (append-nil report, append-nil outside) (refl, record { split = sym (append-nil read); whole = inl (rw same (whole_of s.ran)); within = s.within; runs = rw same s.ran.runs }),
)

-- a last line without a newline ran
last_ran : {M : Type 0} {gives : Gives M} {start : M} (read report text : List ℕ) (outside answered : List (List ℕ)) (new : M) (p : Place M)
    → Stands gives start read report outside p → p.pending ≢ [] → gives p.state p.pending text answered new
    → Ran gives start true read read [] (report ++ text) (outside ++ answered) new
last_ran read report text outside answered new p s some gives =
    let whole = whole_of s.ran in
    let ls : lines read ≡ lines s.front ++ p.pending ∷ [] = rw (s.ran.split, lines-more s.front p.pending whole, lines-last p.pending s.partial some) refl in
    record { split = sym (append-nil read); whole = inr (refl, refl); within = s.within; runs = rw ls (runs_more _ _ _ _ _ _ _ _ _ _ s.ran.runs gives) }

-- the reply to a last line without a newline was written in part
last_broke : {M : Type 0} {gives : Gives M} {start : M} (read report part missing : List ℕ) (outside answered : List (List ℕ)) (new : M) (p : Place M)
    → Stands gives start read report outside p → p.pending ≢ [] → gives p.state p.pending (part ++ missing) answered new → missing ≢ []
    → BrokeOff gives start true read read [] (report ++ part) (outside ++ answered) new
last_broke read report part missing outside answered new p s some did left = record {
  split = sym (append-nil read);
  whole = inr (refl, refl);
  within = s.within;
  before = lines s.front;
  line = p.pending;
  same = rw (s.ran.split, lines-more s.front p.pending (whole_of s.ran), lines-last p.pending s.partial some) refl;
  report = report;
  answers = outside;
  state = p.state;
  runs = s.ran.runs;
  text = part ++ missing;
  answered = answered;
  did = did;
  missing = missing;
  some = left;
  wrote = sym (append_assoc report part missing);
  late = omega (arith, length-append report part);
  said = refl;
}

pub ends_last : {M : Type 0} (gives : Gives M) (refuses : Refuses M) (a b : Option (List ℕ)) (p : Place M) (text : List ℕ) (answered : List (List ℕ)) (new : M)
    → p.pending ≢ [] → Appends a b text → gives p.state p.pending text answered new → Ends gives refuses a b p new Done
ends_last gives refuses a b p text answered new some held did =
    (text, answered, held, λ start read report outside s. (refl, last_ran read report text outside answered new p s some did))

pub ends_stop : {M : Type 0} (gives : Gives M) (refuses : Refuses M) (a b : Option (List ℕ)) (p : Place M) (new : M) (status : Status)
    → p.pending ≢ [] → LineStops gives refuses a b p.state new p.pending (p.lines + 1) status → Ends gives refuses a b p new status
ends_stop gives refuses a b p new Done some h = absurd h
ends_stop gives refuses a b p new Usage some h = absurd h
ends_stop gives refuses a b p new SourceFault some h = absurd h
ends_stop gives refuses a b p new TooLong some h = absurd h
ends_stop gives refuses a b p new (Script line column kind) some h = (
  [],
  [],
  h.0,
  λ start read report outside s. rw (append-nil report, append-nil outside, h.3)
      (s.front, p.pending, p.pending, s.ran, inr (refl, s.partial, some, rw (← s.ran.split) s.within, refl), h.2, rw h.1 (ap (λ n. n + 1) s.count)),
)
ends_stop gives refuses a b p new SinkFault some h = (
  h.0,
  h.2,
  h.5,
  λ start read report outside s. (read, [], last_broke read report h.0 h.1 outside h.2 new p s some h.3 h.4),
)
ends_stop gives refuses a b p new BayFault some h = (
  [],
  [],
  h.0,
  λ start read report outside s. rw (append-nil report, append-nil outside, h.1)
      (s.front, p.pending, p.pending, s.ran, inr (refl, s.partial, some, rw (← s.ran.split) s.within, refl)),
)
ends_stop gives refuses a b p new Memory some h = (
  [],
  [],
  h.0,
  λ start read report outside s. rw (append-nil report, append-nil outside, h.1)
      (s.front, p.pending, report, ran_all true read s.front p.pending report outside p.state s.ran, ([], rw (append-nil report) refl)),
)

-- a byte that is no newline
pub byte_advances : {M : Type 0} {gives : Gives M} (a : Option (List ℕ)) (p q : Place M) (b : ℕ) → HasRoom p.pending p.lines p.bytes → b ≢ 10
    → q.state ≡ p.state → q.pending ≡ p.pending ++ b ∷ [] → q.lines ≡ p.lines → q.bytes ≡ p.bytes + 1 → Advances gives a a p (b ∷ []) q
byte_advances a p q b free differs state pending count bytes =
    ([], [], Appends-nil a, λ start read report outside s. stands_byte read report outside b p q s differs free state pending count bytes)

-- a newline
pub line_advances : {M : Type 0} {gives : Gives M} (a b : Option (List ℕ)) (p q : Place M) (text : List ℕ) (answered : List (List ℕ)) → HasRoom p.pending p.lines p.bytes
    → Appends a b text → gives p.state (strip_carriage_return p.pending) text answered q.state → q.pending ≡ [] → q.lines ≡ p.lines + 1 → q.bytes ≡ p.bytes + 1
    → Advances gives a b p (10 ∷ []) q
line_advances a b p q text answered free held gives pending count bytes =
    (text, answered, held, λ start read report outside s. stands_line read report text outside answered p q s free gives pending count bytes)

pub full_stops : {M : Type 0} (gives : Gives M) (refuses : Refuses M) (a : Option (List ℕ)) (p : Place M) (b : ℕ) → IsFull p.pending p.lines p.bytes
    → Stops gives refuses 0 a a p p.state (b ∷ []) TooLong
full_stops gives refuses a p b passed = ([], [], Appends-nil a, λ start read report outside s. stop_long gives refuses read report outside b p s passed)

pub memory_stops : {M : Type 0} (gives : Gives M) (refuses : Refuses M) (a b : Option (List ℕ)) (p : Place M) (bs : List ℕ) → Appends a b []
    → Stops gives refuses 0 a b p p.state bs Memory
memory_stops gives refuses a b p bs held = ([], [], held, λ start read report outside s. stop_memory gives refuses read report bs outside p s)

pub line_stops : {M : Type 0} (gives : Gives M) (refuses : Refuses M) (a b : Option (List ℕ)) (p : Place M) (new : M) (status : Status) → HasRoom p.pending p.lines p.bytes
    → LineStops gives refuses a b p.state new (strip_carriage_return p.pending) (p.lines + 1) status → Stops gives refuses 0 a b p new (10 ∷ []) status
line_stops gives refuses a b p new Done free h = absurd h
line_stops gives refuses a b p new Usage free h = absurd h
line_stops gives refuses a b p new SourceFault free h = absurd h
line_stops gives refuses a b p new TooLong free h = absurd h
line_stops gives refuses a b p new (Script line column kind) free h =
    ([], [], h.0, λ start read report outside s. rw (h.1, h.3) (stop_script gives refuses read report outside column kind p s free h.2))
line_stops gives refuses a b p new SinkFault free h =
    (h.0, h.2, h.5, λ start read report outside s. stop_sink gives refuses read report h.0 h.1 outside h.2 new p s free h.3 h.4)
line_stops gives refuses a b p new BayFault free h =
    ([], [], h.0, λ start read report outside s. rw h.1 (stop_bay gives refuses read report outside p s free))
line_stops gives refuses a b p new Memory free h = rw h.1 (memory_stops gives refuses a b p (10 ∷ []) h.0)
