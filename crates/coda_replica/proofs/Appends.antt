-- The two synced writes by which an entry is added.
use Rattle.std.proofs.Common.{◌≡◌, inl, inr, ℕ, ◌+◌, ◌<◌, ◌≤◌, List, [], ◌∷◌, ◌++◌, length, get_or, drop, sym, ◌∙◌, ap, subst, arith, append_assoc, length-append}
use Rattle.std.specs.Int.{w32}
use Rattle.std.specs.Prelude.{Result, Ok, Some}
use Rattle.coda_disk.specs.Told.{Told, Torn, LeavesOnly}
use Rattle.coda_journal.specs.Entries.{blocks, body}
use Rattle.coda_journal.specs.Header.{area_bytes}
use Rattle.coda_journal.specs.Image.{Reads, start_of}
use Rattle.coda_journal.specs.declared.header.Header.{Header}
use Rattle.coda_journal.proofs.ReadTo.{blocks-push}
use Rattle.coda_journal.proofs.Fronts.{Opened, opened, closes, pushed, any_gate, still_start, gate_place}
use Rattle.coda_journal.specs.Open.{IsOpen, MayBe, Stands}
use Rattle.coda_journal.specs.Journal.{IsBeforeOrAfter}
use Rattle.coda_journal.specs.Synced.{IsPut, May, WroteSynced}
use Rattle.coda_journal.proofs.Moments.{and_then, widen}
use Rattle.coda_journal.proofs.Crash.{torn_behind, written_behind, torn_gate, written_gate}

module _ (header : Header) (start used area : ℕ) (ps : List (List ℕ)) (p : List ℕ) (t0 : Told) (o : IsOpen t0 header start used area ps) (room : used + (1 + length (body w32 p)) < area) where
  abbrev pub Q : List ℕ → Type 0
  Q = IsBeforeOrAfter header ps p

  at_gate : Opened header t0.seen ps
  at_gate = opened header t0.seen ps o.reads

  place : (op : Opened header t0.seen ps) → start + used ≡ length op.front
  place op = omega (arith, op.place, o.starts, o.counts)

  enough : length (blocks w32 ps) + (1 + length (body w32 p)) < area_bytes header
  enough = omega (arith, room, o.counts, o.size)

  pub long : start + used + 1 ≤ length t0.seen
  long = let op = at_gate in omega (arith, place op, ap length op.is, length-append op.front (op.gate ∷ op.rest))

  here : (c : List ℕ) → t0.may_leave c → Q c
  here c now = inl (subst (λ (l : List ℕ). Reads header l ps) (sym (o.durable c now)) o.reads)

  behind : (m : ℕ) (c : List ℕ) → Torn (start + used + 1) m t0.seen c → Q c
  behind m c torn =
      let op = at_gate in
      let is = torn_behind op.front (start + used) (place op) op.gate op.rest m c (subst (λ (l : List ℕ). Torn (start + used + 1) m l c) op.is torn) in
      inl (subst (λ (l : List ℕ). Reads header l ps) (sym is) (closes header ps op.front op.gate (drop (start + used + 1) c) op.is_front op.shut))

  pub leaves1 : {T E : Type 0} {r : Result T E} (b : List ℕ) (t1 : Told) → WroteSynced (start + used + 1) b t0 t1 r → LeavesOnly t0 t1 Q
  leaves1 b t1 w = widen t0 t1 (May (Torn (start + used + 1) (length b)) t0.may_leave) Q wider (w.leaves long)
    where
      wider : (c : List ℕ) → May (Torn (start + used + 1) (length b)) t0.may_leave c → Q c
      wider c (inl old) = here c old
      wider c (inr from) = behind (length b) c (subst (λ (l : List ℕ). Torn (start + used + 1) (length b) l c) (o.durable from.0 from.1) from.2)

  module _ {T1 E1 : Type 0} {x1 : T1} (b : List ℕ) (same : b ≡ body w32 p ++ 0 ∷ []) (t1 : Told) (w1 : WroteSynced {T = T1} {E = E1} (start + used + 1) b t0 t1 (Ok x1)) where
    more : List ℕ
    more = let op = at_gate in drop (start + used + 1 + length b) (op.front ++ op.gate ∷ op.rest)

    staged : (op : Opened header t0.seen ps) → t1.seen ≡ op.front ++ op.gate ∷ (body w32 p ++ 0 ∷ drop (start + used + 1 + length b) (op.front ++ op.gate ∷ op.rest))
    staged op =
        let rest = drop (start + used + 1 + length b) (op.front ++ op.gate ∷ op.rest) in
        let holds : IsPut (op.front ++ op.gate ∷ op.rest) (start + used + 1) b t1.seen = subst (λ (l : List ℕ). IsPut l (start + used + 1) b t1.seen) op.is (w1.written long).0 in
        written_behind op.front (start + used) (place op) op.gate op.rest b t1.seen holds
        ∙ ap (λ (l : List ℕ). op.front ++ op.gate ∷ (l ++ rest)) same ∙ ap (λ (l : List ℕ). op.front ++ op.gate ∷ l) (append_assoc (body w32 p) (0 ∷ []) rest)

    held : (c : List ℕ) → t1.may_leave c → Q c
    held c now =
        let op = at_gate in
        inl (subst (λ (l : List ℕ). Reads header l ps) (sym ((w1.written long).1 c now ∙ staged op)) (closes header ps op.front op.gate (body w32 p ++ 0 ∷ drop (start + used + 1 + length b) (op.front ++ op.gate ∷ op.rest)) op.is_front op.shut))

    pub long1 : start + used ≤ length t1.seen
    long1 = let op = at_gate in omega (arith, place op, ap length (staged op), length-append op.front (op.gate ∷ (body w32 p ++ 0 ∷ drop (start + used + 1 + length b) (op.front ++ op.gate ∷ op.rest))))

    gates : (c : List ℕ) → Torn (start + used) 1 t1.seen c → Q c
    gates c torn =
        let op = at_gate in
        let rest = drop (start + used + 1 + length b) (op.front ++ op.gate ∷ op.rest) in
        let is = torn_gate op.front (start + used) (place op) op.gate (body w32 p ++ 0 ∷ rest) c (subst (λ (l : List ℕ). Torn (start + used) 1 l c) (staged op) torn) in
        subst Q (sym is) (any_gate header ps op.front p (get_or c (start + used) 0) rest op.is_front enough)

    pub leaves2 : {T E : Type 0} {r : Result T E} (t2 : Told) → WroteSynced (start + used) (1 ∷ []) t1 t2 r → LeavesOnly t0 t2 Q
    leaves2 t2 w = and_then t0 t1 t2 Q (leaves1 b t1 w1) (widen t1 t2 (May (Torn (start + used) 1) t1.may_leave) Q wider (w.leaves long1))
      where
        wider : (c : List ℕ) → May (Torn (start + used) 1) t1.may_leave c → Q c
        wider c (inl old) = held c old
        wider c (inr from) = gates c (subst (λ (l : List ℕ). Torn (start + used) 1 l c) ((w1.written long).1 from.0 from.1) from.2)

    pub done : {T E : Type 0} {x : T} (t2 : Told) → WroteSynced {T = T} {E = E} (start + used) (1 ∷ []) t1 t2 (Ok x) → IsOpen t2 header start (used + length b) area (ps ++ p ∷ [])
    done t2 w =
        let op = at_gate in
        let rest = drop (start + used + 1 + length b) (op.front ++ op.gate ∷ op.rest) in
        let written = w.written long1 in
        let front = op.front ++ 1 ∷ body w32 p in
        let is_front = pushed header ps op.front p op.is_front enough in
        let is : t2.seen ≡ front ++ 0 ∷ rest =
        written_gate op.front (start + used) (place op) op.gate (body w32 p ++ 0 ∷ rest) t2.seen (subst (λ (l : List ℕ). IsPut l (start + used) (1 ∷ []) t2.seen) (staged op) written.0)
        ∙ sym (append_assoc op.front (1 ∷ body w32 p) (0 ∷ rest)) in
        record {
          honest = w.honest;
          whole = o.whole;
          reads = subst (λ (l : List ℕ). Reads header l (ps ++ p ∷ [])) (sym is) (closes header (ps ++ p ∷ []) front 0 rest is_front (omega arith));
          starts = omega (arith, place op, gate_place header ps op.front op.is_front, o.counts, still_start header op.front op.is_front.made (1 ∷ body w32 p), still_start header front is_front.made (0 ∷ rest), ap (λ (l : List ℕ). start_of header l) is);
          counts = omega (arith, o.counts, ap length same, length-append (body w32 p) (0 ∷ []), ap length (blocks-push w32 ps p []), length-append (blocks w32 ps) (1 ∷ (body w32 p ++ [])), length-append (body w32 p) [], length-append (blocks w32 (ps ++ p ∷ [])) []);
          size = o.size;
          durable = written.1;
        }

  -- what a crash now may leave after a run of these
  pub stands : (t : Told) → t.honest → LeavesOnly t0 t Q → ((c : List ℕ) → t.may_leave c → t.left_since t0.moment c) → Stands t header ps (Some p)
  stands t h leaves now = record { honest = h; whole = o.whole; each = each }
    where
      maybe : (c : List ℕ) → Q c → MayBe header ps (Some p) c
      maybe c (inl r) = inl (inr r)
      maybe c (inr r) = inr (inr r)

      each : (c : List ℕ) → t.may_leave c → MayBe header ps (Some p) c
      each c is = maybe c (leaves.each c (now c is))
