-- No line begins with the words up to a wrong column: `wrong`, by recursion on the form.
use Rattle.std.proofs.Common.{◌≡◌, ℕ, ◌+◌, Bool, true, false, ◌⊎◌, inl, inr, List, [], ◌∷◌, ◌++◌, Option, Some, None, Result, Ok, Err, refl, sym, ap, subst, ◌∙◌}
use Rattle.std.proofs.lemmas.Bool.{false≢true}
use Rattle.coda_engine.specs.declared.status.Kind.{Kind}
use Rattle.coda_engine.specs.declared.status.Kind.TheVariants as kinds
use Rattle.coda_text.specs.Words.{Split, Word, rest_of}
use Rattle.coda_script.specs.declared.line.Line.{Line}
use Rattle.coda_script.specs.Slots.{NumberSlot, between, number_in, path_in, name_in, rights_in, text_in, is_word, is_server}
use Rattle.coda_script.specs.Form.{Form, ends, nothing, either, a_number, a_path, a_name, some_rights, a_text, perhaps, servers_above}
use Rattle.coda_script.specs.Reading.{Fault, ◌>>=◌, slot_at, is_next, missing, servers_at, option_at, read}
use Rattle.coda_script.specs.Spelling.{begins, SpellServers, Spells}
use Rattle.coda_script.specs.FirstWrong.{NoneBegins, IsWrongColumn}
use Rattle.coda_script.proofs.Binding.{split, texts, chosen, first_is, is_itself, some_is}

-- ---- small steps

abbrev Wrong : Form → List Word → ℕ → Option ℕ → ℕ → Type 0
Wrong f ws end breaks column = IsWrongColumn f (split ws end breaks) column

-- the column of a fault
pub faulty : {A : Type 0} (d : Fault) (column : ℕ) (kind : Kind) → (let r : Result A Fault = Err d in r) ≡ Err (column, kind) → d.0 ≡ column
faulty d column kind e = cc

pub head_is : (t u : List ℕ) (ts us : List (List ℕ)) → t ∷ ts ≡ u ∷ us → t ≡ u
head_is t u ts us e = cc

pub tail_is : (t u : List ℕ) (ts us : List (List ℕ)) → t ∷ ts ≡ u ∷ us → ts ≡ us
tail_is t u ts us e = cc

pub none_some : {A : Type 0} (x : A) → (let r : Option A = None in r) ≡ Some x → ⊥
none_some x e = absurd cc

pub cases_option : {A : Type 0} (o : Option A) → (o ≡ None) ⊎ ((x : A) × (o ≡ Some x))
cases_option None = inl refl
cases_option (Some x) = inr (x, refl)

-- the words before a column begin with one more
none_behind : (f g : Form) (t : List ℕ) (front : List (List ℕ)) (after : List Word) → ((ws : List (List ℕ)) (line : Line) → Spells f (t ∷ ws) line → Spells g ws line) → NoneBegins g front after → NoneBegins f (t ∷ front) after
none_behind f g t front [] step n = λ line s. n line (step front line s)
none_behind f g t front (w ∷ ws) step n = λ more line s. n more line (step (front ++ w.text ∷ more) line s)

behind : (f g : Form) (w : Word) (ws : List Word) (end : ℕ) (breaks : Option ℕ) (column : ℕ) → ((ts : List (List ℕ)) (line : Line) → Spells f (w.text ∷ ts) line → Spells g ts line) → Wrong g ws end breaks column → Wrong f (w ∷ ws) end breaks column
behind f g w ws end breaks column step r =
    record { before = w ∷ r.before; after = r.after; parts = ap (λ (x : List Word). w ∷ x) r.parts; place = r.place; none = λ whole. none_behind f g w.text (texts r.before) r.after step (r.none whole) }

-- the words up to a column stay, where words with this beginning spell no more
begins_so : (test : List ℕ → Bool) (before : List Word) (w : Word) (ws : List Word) (more : List (List ℕ)) → is_next test (before ++ w ∷ ws) ≡ false → begins test (texts before ++ w.text ∷ more) ≡ false
begins_so test [] w ws more e = e
begins_so test (b ∷ bs) w ws more e = e

begins_thus : (test : List ℕ → Bool) (before : List Word) → is_next test (before ++ []) ≡ false → begins test (texts before) ≡ false
begins_thus test [] e = refl
begins_thus test (b ∷ bs) e = e

none_stays : (f g : Form) (test : List ℕ → Bool) (before after : List Word) → is_next test (before ++ after) ≡ false → ((ts : List (List ℕ)) (line : Line) → begins test ts ≡ false → Spells f ts line → Spells g ts line) → NoneBegins g (texts before) after → NoneBegins f (texts before) after
none_stays f g test before [] e step n = λ line s. n line (step (texts before) line (begins_thus test before e) s)
none_stays f g test before (w ∷ ws) e step n = λ more line s. n more line (step (texts before ++ w.text ∷ more) line (begins_so test before w ws more e) s)

stays : (f g : Form) (test : List ℕ → Bool) (ws : List Word) (end : ℕ) (breaks : Option ℕ) (column : ℕ) → is_next test ws ≡ false → ((ts : List (List ℕ)) (line : Line) → begins test ts ≡ false → Spells f ts line → Spells g ts line) → Wrong g ws end breaks column → Wrong f ws end breaks column
stays f g test ws end breaks column e step r =
    record { before = r.before; after = r.after; parts = r.parts; place = r.place; none = λ whole. none_stays f g test r.before r.after (ap (is_next test) (sym r.parts) ∙ e) step (r.none whole) }

-- nothing is spelled there
at_end : (f : Form) (end : ℕ) (breaks : Option ℕ) (column : ℕ) → end + 1 ≡ column → ((line : Line) → Spells f [] line → ⊥) → Wrong f [] end breaks column
at_end f end breaks column e no_line = record { before = []; after = []; parts = refl; place = sym e; none = λ whole. no_line }

at_word : (f : Form) (w : Word) (ws : List Word) (end : ℕ) (breaks : Option ℕ) (column : ℕ) → w.at + 1 ≡ column → ((more : List (List ℕ)) (line : Line) → Spells f (w.text ∷ more) line → ⊥) → Wrong f (w ∷ ws) end breaks column
at_word f w ws end breaks column e no_line = record { before = []; after = w ∷ ws; parts = refl; place = sym e; none = λ whole. no_line }

-- ---- a word with a value

abbrev pub SpellsSlot : {A : Type 0} → (List ℕ → Option A) → (A → Form) → List (List ℕ) → Line → Type 0
SpellsSlot {A} value next ws line = (w : List ℕ) × (rest : List (List ℕ)) × (ws ≡ w ∷ rest) × (x : A) × (value w ≡ Some x) × Spells (next x) rest line

slot_wrong : {A : Type 0} (f : Form) (kind : Kind) (value : List ℕ → Option A) (next : A → Form) (ws : List Word) (end : ℕ) (breaks : Option ℕ) (column : ℕ) (k : Kind)
    → ((ts : List (List ℕ)) (line : Line) → Spells f ts line → SpellsSlot value next ts line)
    → (slot_at kind value (split ws end breaks) >>= (λ n. read (next n.0) n.1)) ≡ Err (column, k)
    → ((x : A) (rest : List Word) → read (next x) (split rest end breaks) ≡ Err (column, k) → Wrong (next x) rest end breaks column)
    → Wrong f ws end breaks column
unfolding slot_at
slot_wrong f kind value next [] end breaks column k same e rec = at_end f end breaks column (faulty (missing (split [] end breaks)) column k e) (λ line s. let t = same [] line s in absurd (let n = t.2 in cc))
slot_wrong {A} f kind value next (w ∷ ws) end breaks column k same e rec =
    elim (cases_option (value w.text)) [
      | inl none ↦
          at_word f w ws end breaks column (faulty (w.at + 1, kind) column k (rw none at e)) (λ more line s.
          let t = same (w.text ∷ more) line s in
          none_some t.3 (sym none ∙ ap value (head_is w.text t.0 more t.1 t.2) ∙ t.4))
      | inr some ↦
          behind f (next some.0) w ws end breaks column (λ ts line s.
          let t = same (w.text ∷ ts) line s in
          let x : t.3 ≡ some.0 = some_is t.3 some.0 (sym t.4 ∙ ap value (sym (head_is w.text t.0 ts t.1 t.2)) ∙ some.1) in
          subst (λ (y : A). Spells (next y) ts line) x (subst (λ (us : List (List ℕ)). Spells (next t.3) us line) (sym (tail_is w.text t.0 ts t.1 t.2)) t.5)) (rec some.0 ws (rw some.1 at e))
    ]

-- a word that isn't there begins nothing
pub not_word : (word : List ℕ) (ts rest : List (List ℕ)) → begins (is_word word) ts ≡ false → ts ≡ word ∷ rest → ⊥
not_word word ts rest n e = false≢true (sym n ∙ ap (begins (is_word word)) e ∙ is_itself word)

-- ---- servers

pub cases_is : (b : Bool) → (b ≡ true) ⊎ (b ≡ false)
cases_is true = inl refl
cases_is false = inr refl

abbrev pub one_pair : ℕ → List ℕ × Split → Result (List ℕ × Split) Fault
one_pair s more = Ok (s ∷ more.0, more.1)

pub one_more : (s : ℕ) (next : List ℕ → Form) (r : Result (List ℕ × Split) Fault) (column : ℕ) (k : Kind) → ((r >>= one_pair s) >>= (λ (n : List ℕ × Split). read (next n.0) n.1)) ≡ Err (column, k) → (r >>= (λ n. read (next (s ∷ n.0)) n.1)) ≡ Err (column, k)
one_more s next (Ok x) column k e = e
one_more s next (Err d) column k e = cc

pub no_servers : (all : Bool) (last : ℕ) (next : List ℕ → Form) (ts : List (List ℕ)) (line : Line) → begins (is_server all) ts ≡ false → Spells (servers_above all last next) ts line → Spells (next []) ts line
no_servers all last next ts line n ([], rest, e, [], s, d, r) = subst (λ (us : List (List ℕ)). Spells (next []) us line) (sym e) r
no_servers all last next ts line n ([], rest, e, x ∷ ss, s, d, r) = absurd s
no_servers all last next ts line n (m ∷ mine, rest, e, [], s, d, r) = absurd s
no_servers all last next ts line n (m ∷ mine, rest, e, x ∷ ss, s, d, r) = absurd (false≢true (sym n ∙ ap (begins (is_server all)) e ∙ s.0))

pub no_number : (all : Bool) (last : ℕ) (next : List ℕ → Form) (t : List ℕ) → is_server all t ≡ true → number_in (between (last + 1) 8) t ≡ None → (more : List (List ℕ)) (line : Line) → Spells (servers_above all last next) (t ∷ more) line → ⊥
no_number all last next t server none more line ([], rest, e, ss, s, d, r) = false≢true (sym d ∙ ap (begins (is_server all)) (sym e) ∙ server)
no_number all last next t server none more line (m ∷ mine, rest, e, [], s, d, r) = s
no_number all last next t server none more line (m ∷ mine, rest, e, x ∷ ss, s, d, r) = none_some x (sym none ∙ ap (number_in (between (last + 1) 8)) (head_is t m more (mine ++ rest) e) ∙ s.1)

pub one_server : (all : Bool) (last first : ℕ) (next : List ℕ → Form) (t : List ℕ) → is_server all t ≡ true → number_in (between (last + 1) 8) t ≡ Some first → (ts : List (List ℕ)) (line : Line) → Spells (servers_above all last next) (t ∷ ts) line
    → Spells (servers_above all first (λ ss. next (first ∷ ss))) ts line
one_server all last first next t server some ts line ([], rest, e, ss, s, d, r) = absurd (false≢true (sym d ∙ ap (begins (is_server all)) (sym e) ∙ server))
one_server all last first next t server some ts line (m ∷ mine, rest, e, [], s, d, r) = absurd s
one_server all last first next t server some ts line (m ∷ mine, rest, e, x ∷ ss, s, d, r) =
    let same : x ≡ first = some_is x first (sym s.1 ∙ ap (number_in (between (last + 1) 8)) (sym (head_is t m ts (mine ++ rest) e)) ∙ some) in
    (mine, rest, tail_is t m ts (mine ++ rest) e, ss, subst (λ (y : ℕ). SpellServers all y mine ss) same s.2, d, subst (λ (y : ℕ). Spells (next (y ∷ ss)) rest line) same r)

servers_wrong : (all : Bool) (ws : List Word) (last : ℕ) (next : List ℕ → Form) (end : ℕ) (breaks : Option ℕ) (column : ℕ) (k : Kind)
    → (servers_at all last (split ws end breaks) ws >>= (λ n. read (next n.0) n.1)) ≡ Err (column, k)
    → ((ss : List ℕ) (rest : List Word) → read (next ss) (split rest end breaks) ≡ Err (column, k) → Wrong (next ss) rest end breaks column)
    → Wrong (servers_above all last next) ws end breaks column
unfolding servers_at
servers_wrong all [] last next end breaks column k e rec = stays (servers_above all last next) (next []) (is_server all) [] end breaks column refl (no_servers all last next) (rec [] [] e)
servers_wrong all (w ∷ ws) last next end breaks column k e rec =
    elim (cases_is (is_server all w.text)) [
      | inr other ↦ stays (servers_above all last next) (next []) (is_server all) (w ∷ ws) end breaks column other (no_servers all last next) (rec [] (w ∷ ws) (rw other at e))
      | inl server ↦ elim (cases_option (number_in (between (last + 1) 8) w.text)) [
        | inl none ↦ at_word (servers_above all last next) w ws end breaks column (faulty (w.at + 1, kinds.Number) column k (rw (server, none) at e)) (no_number all last next w.text server none)
        | inr some ↦
            behind (servers_above all last next) (servers_above all some.0 (λ ss. next (some.0 ∷ ss))) w ws end breaks column (one_server all last some.0 next w.text server some.1) (
            servers_wrong all ws some.0 (λ ss. next (some.0 ∷ ss)) end breaks column k (one_more some.0 next (servers_at all some.0 (split ws end breaks) ws) column k (rw (server, some.1) at e)) (λ ss. rec (some.0 ∷ ss)))
      ]
    ]

-- ---- any form

abbrev pub some_pair : ℕ × Split → Result (Option ℕ × Split) Fault
some_pair n = Ok (Some n.0, n.1)

pub option_taken : (slot : NumberSlot) (next : Option ℕ → Form) (r : Result (ℕ × Split) Fault) (column : ℕ) (k : Kind) → ((r >>= some_pair) >>= (λ (n : Option ℕ × Split). read (next n.0) n.1)) ≡ Err (column, k) → (r >>= (λ n. read (next (Some n.0)) n.1)) ≡ Err (column, k)
option_taken slot next (Ok x) column k e = e
option_taken slot next (Err d) column k e = cc

pub either_so : (word : List ℕ) (so other : Form) (t : List ℕ) → t ≡ word → (ts : List (List ℕ)) (line : Line) → Spells (either word so other) (t ∷ ts) line → Spells so ts line
either_so word so other t is ts line (inl s) = subst (λ (us : List (List ℕ)). Spells so us line) (sym (tail_is t word ts s.0 s.1)) s.2
either_so word so other t is ts line (inr s) = absurd (not_word word (t ∷ ts) ts s.0 (ap (λ (x : List ℕ). x ∷ ts) is))

pub either_other : (word : List ℕ) (so other : Form) (ts : List (List ℕ)) (line : Line) → begins (is_word word) ts ≡ false → Spells (either word so other) ts line → Spells other ts line
either_other word so other ts line n (inl s) = absurd (not_word word ts s.0 n s.1)
either_other word so other ts line n (inr s) = s.1

pub taken : (word : List ℕ) (slot : NumberSlot) (next : Option ℕ → Form) (ws : List Word) (v : Word) (rest : List Word) (end : ℕ) (breaks : Option ℕ) (column : ℕ) (kind : Kind) → ws ≡ v ∷ rest → v.text ≡ word → read (perhaps word slot next) (split ws end breaks) ≡ Err (column, kind)
    → ((slot_at kinds.Number (number_in slot) (split rest end breaks) >>= some_pair) >>= (λ (n : Option ℕ × Split). read (next n.0) n.1)) ≡ Err (column, kind)
unfolding option_at
taken word slot next ws v rest end breaks column kind p t e = rw (p, t, is_itself word) at e

pub perhaps_so : (word : List ℕ) (slot : NumberSlot) (next : Option ℕ → Form) (t : List ℕ) → t ≡ word → (ts : List (List ℕ)) (line : Line) → Spells (perhaps word slot next) (t ∷ ts) line → Spells (a_number slot (λ n. next (Some n))) ts line
perhaps_so word slot next t is ts line (inl s) = (s.0, s.1, tail_is t word ts (s.0 ∷ s.1) s.2, s.3, s.4, s.5)
perhaps_so word slot next t is ts line (inr s) = absurd (not_word word (t ∷ ts) ts s.0 (ap (λ (x : List ℕ). x ∷ ts) is))

pub perhaps_none : (word : List ℕ) (slot : NumberSlot) (next : Option ℕ → Form) (ts : List (List ℕ)) (line : Line) → begins (is_word word) ts ≡ false → Spells (perhaps word slot next) ts line → Spells (next None) ts line
perhaps_none word slot next ts line n (inl s) = absurd (not_word word ts (s.0 ∷ s.1) n s.2)
perhaps_none word slot next ts line n (inr s) = s.1

pub wrong : (f : Form) (ws : List Word) (end : ℕ) (breaks : Option ℕ) (column : ℕ) (kind : Kind) → read f (split ws end breaks) ≡ Err (column, kind) → Wrong f ws end breaks column
unfolding option_at
wrong (ends k l) [] end None column kind e = absurd cc
wrong (ends k l) [] end (Some b) column kind e = record { before = []; after = []; parts = refl; place = sym (faulty (missing (split [] end (Some b))) column kind e); none = λ whole. absurd (let n = whole refl in cc) }
wrong (ends k l) (w ∷ ws) end breaks column kind e = at_word (ends k l) w ws end breaks column (faulty (w.at + 1, k) column kind e) (λ more line s. let n = s.0 in absurd cc)
wrong nothing [] end breaks column kind e = at_end nothing end breaks column (faulty (missing (split [] end breaks)) column kind e) (λ line s. s)
wrong nothing (w ∷ ws) end breaks column kind e = at_word nothing w ws end breaks column (faulty (w.at + 1, kinds.Word) column kind e) (λ more line s. s)
wrong (either word so other) ws end breaks column kind e =
    elim (chosen (is_next (is_word word) ws) (read so (rest_of (split ws end breaks))) (read other (split ws end breaks)) (Err (column, kind)) e) [
      | inl t ↦
          let v = first_is word ws t.0 in
          let e' : read so (rest_of (split (v.0 ∷ v.1) end breaks)) ≡ Err (column, kind) = rw v.2 at t.1 in
          subst (λ (x : List Word). Wrong (either word so other) x end breaks column) (sym v.2) (
          behind (either word so other) so v.0 v.1 end breaks column (either_so word so other v.0.text v.3) (wrong so v.1 end breaks column kind e'))
      | inr t ↦ stays (either word so other) other (is_word word) ws end breaks column t.0 (either_other word so other) (wrong other ws end breaks column kind t.1)
    ]
wrong (a_number slot next) ws end breaks column kind e = slot_wrong (a_number slot next) kinds.Number (number_in slot) next ws end breaks column kind (λ ts line s. s) e (λ x rest r. wrong (next x) rest end breaks column kind r)
wrong (a_path next) ws end breaks column kind e = slot_wrong (a_path next) kinds.Path path_in next ws end breaks column kind (λ ts line s. s) e (λ x rest r. wrong (next x) rest end breaks column kind r)
wrong (a_name next) ws end breaks column kind e = slot_wrong (a_name next) kinds.Path name_in next ws end breaks column kind (λ ts line s. s) e (λ x rest r. wrong (next x) rest end breaks column kind r)
wrong (some_rights next) ws end breaks column kind e = slot_wrong (some_rights next) kinds.Word rights_in next ws end breaks column kind (λ ts line s. s) e (λ x rest r. wrong (next x) rest end breaks column kind r)
wrong (a_text slot next) ws end breaks column kind e = slot_wrong (a_text slot next) kinds.Text (text_in slot) next ws end breaks column kind (λ ts line s. s) e (λ x rest r. wrong (next x) rest end breaks column kind r)
wrong (perhaps word slot next) ws end breaks column kind e =
    elim (cases_is (is_next (is_word word) ws)) [
      | inl there ↦
          let v = first_is word ws there in
          let e' = option_taken slot next (slot_at kinds.Number (number_in slot) (split v.1 end breaks)) column kind (taken word slot next ws v.0 v.1 end breaks column kind v.2 v.3 e) in
          subst (λ (x : List Word). Wrong (perhaps word slot next) x end breaks column) (sym v.2) (
          behind (perhaps word slot next) (a_number slot (λ n. next (Some n))) v.0 v.1 end breaks column (perhaps_so word slot next v.0.text v.3) (
          slot_wrong (a_number slot (λ n. next (Some n))) kinds.Number (number_in slot) (λ n. next (Some n)) v.1 end breaks column kind (λ ts line s. s) e' (λ x rest r. wrong (next (Some x)) rest end breaks column kind r)))
      | inr other ↦ stays (perhaps word slot next) (next None) (is_word word) ws end breaks column other (perhaps_none word slot next) (wrong (next None) ws end breaks column kind (rw other at e))
    ]
wrong (servers_above all last next) ws end breaks column kind e = servers_wrong all ws last next end breaks column kind e (λ ss rest r. wrong (next ss) rest end breaks column kind r)
