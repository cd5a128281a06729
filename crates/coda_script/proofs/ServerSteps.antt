-- Reading servers one after the other.
use Rattle.std.proofs.Common.{◌≡◌, ℕ, ◌+◌, Bool, true, false, List, [], ◌∷◌, ◌++◌, Option, Some, None, Result, Ok, Err, refl, sym, ap, ◌∙◌, append_assoc}
use Rattle.std.proofs.lemmas.List.{append-nil}
use Rattle.std.specs.Option.{option_map_or}
use Rattle.coda_engine.specs.declared.status.Kind.TheVariants as kinds
use Rattle.coda_text.specs.Words.{Split, Word}
use Rattle.coda_script.specs.declared.fault.LineFault.{LineFault}
use Rattle.coda_script.specs.declared.fault.LineFault.TheVariants.{Memory, BadLine}
use Rattle.coda_script.specs.Slots.{between, number_in, is_server}
use Rattle.coda_script.specs.Reading.{Fault, ◌>>=◌, slot_at, is_next, servers_at}
use Rattle.coda_script.specs.Outcome.{Fails}
use Rattle.coda_script.proofs.Binding.{split, ok_is}
use Rattle.coda_script.proofs.ServerLists.{servers_stop}

-- servers read before, in front of those that are read
abbrev pub with_front : List ℕ → Result (List ℕ × Split) Fault → Result (List ℕ × Split) Fault
with_front front read = read >>= λ x. Ok (front ++ x.0, x.1)

pub opened : (r : Option ℕ) (rest next : Split) (s : ℕ) (f : Fault) → option_map_or (λ (x : ℕ). let r : Result (ℕ × Split) Fault = Ok (x, rest) in r) r (Err f) ≡ Ok (s, next) → (r ≡ Some s) × (rest ≡ next)
opened (Some x) rest next s f e = let p = ok_is (x, rest) (s, next) e in (ap (λ (q : ℕ × Split). let o : Option ℕ = Some q.0 in o) p, ap (λ (q : ℕ × Split). q.1) p)
opened None rest next s f e = absurd cc

pub failed : (r : Option ℕ) (rest : Split) (f g : Fault) → option_map_or (λ (x : ℕ). let r : Result (ℕ × Split) Fault = Ok (x, rest) in r) r (Err f) ≡ Err g → (r ≡ None) × (f ≡ g)
failed (Some x) rest f g e = absurd cc
failed None rest f g e = (refl, cc)

-- one more server
goes : (all : Bool) (words : List Word) (end : ℕ) (breaks : Option ℕ) (last s : ℕ) (next : Split) → is_next (is_server all) words ≡ true
    → slot_at kinds.Number (number_in (between (last + 1) 8)) (split words end breaks) ≡ Ok (s, next)
    → servers_at all last (split words end breaks) words ≡ (servers_at all s next next.words >>= (λ more. Ok (s ∷ more.0, more.1)))
unfolding slot_at servers_at
goes all [] end breaks last s next d e = absurd cc
goes all (w ∷ ws) end breaks last s next d e =
    let o = opened (number_in (between (last + 1) 8) w.text) (split ws end breaks) next s (w.at + 1, kinds.Number) e in
    rw (d, o.0, ← o.1) refl

fails : (e : LineFault) (all : Bool) (words : List Word) (end : ℕ) (breaks : Option ℕ) (last : ℕ) → is_next (is_server all) words ≡ true
    → Fails e (slot_at kinds.Number (number_in (between (last + 1) 8)) (split words end breaks)) → Fails e (servers_at all last (split words end breaks) words)
unfolding slot_at servers_at
fails Memory all words end breaks last d h = tt
fails (BadLine c k) all [] end breaks last d h = absurd cc
fails (BadLine c k) all (w ∷ ws) end breaks last d h =
    let o = failed (number_in (between (last + 1) 8) w.text) (split ws end breaks) (w.at + 1, kinds.Number) (c, k) h in
    rw (d, o.0) (ap (λ (f : Fault). let r : Result (List ℕ × Split) Fault = Err f in r) o.1)

regroup : (front : List ℕ) (s : ℕ) (read : Result (List ℕ × Split) Fault) → with_front front (read >>= (λ x. Ok (s ∷ x.0, x.1))) ≡ with_front (front ++ s ∷ []) read
regroup front s (Ok x) = ap (λ (ns : List ℕ). let r : Result (List ℕ × Split) Fault = Ok (ns, x.1) in r) (simp append_assoc)
regroup front s (Err f) = refl

pub goes_on : (front : List ℕ) (all : Bool) (t next : Split) (last s : ℕ) (total : Result (List ℕ × Split) Fault) → is_next (is_server all) t.words ≡ true
    → slot_at kinds.Number (number_in (between (last + 1) 8)) t ≡ Ok (s, next)
    → with_front front (servers_at all last t t.words) ≡ total → with_front (front ++ s ∷ []) (servers_at all s next next.words) ≡ total
goes_on front all t next last s total d e so_far =
    sym (regroup front s (servers_at all s next next.words)) ∙ sym (ap (with_front front) (goes all t.words t.end t.breaks last s next d e)) ∙ so_far

pub gives_up : (e : LineFault) (front : List ℕ) (all : Bool) (t : Split) (last : ℕ) (total : Result (List ℕ × Split) Fault) → is_next (is_server all) t.words ≡ true
    → Fails e (slot_at kinds.Number (number_in (between (last + 1) 8)) t)
    → with_front front (servers_at all last t t.words) ≡ total → Fails e total
gives_up Memory front all t last total d h so_far = tt
gives_up (BadLine c k) front all t last total d h so_far = sym so_far ∙ ap (with_front front) (fails (BadLine c k) all t.words t.end t.breaks last d h)

pub is_done : (front : List ℕ) (all : Bool) (t : Split) (last : ℕ) (total : Result (List ℕ × Split) Fault) → is_next (is_server all) t.words ≡ false
    → with_front front (servers_at all last t t.words) ≡ total → total ≡ Ok (front, t)
is_done front all t last total d so_far =
    sym so_far ∙ ap (with_front front) (servers_stop all t.words last t.end t.breaks d) ∙ ap (λ (ns : List ℕ). let r : Result (List ℕ × Split) Fault = Ok (ns, t) in r) (append-nil front)
