-- Which versions an operation leaves.
use Rattle.std.proofs.Common.{◌≡◌, ℕ, Bool, true, false, cond, ◌||◌, List, [], ◌∷◌, Option, Some, None, option_map}
use Rattle.std.proofs.Common.{refl, sym, ap, ◌∙◌, subst}
use Rattle.std.specs.FinMap as map
use Rattle.std.proofs.lemmas.Bool.{or_parts, false≢true, false_from_ne_true}
use Rattle.coda_fid.specs.Fid.{same_fid}
use Rattle.coda_fid.specs.declared.fid.Fid.{Fid}
use Rattle.coda_fid.specs.declared.fid.Sid.{Sid}
use Rattle.coda_fid.specs.declared.op.Op.{Op}
use Rattle.coda_fid.specs.declared.op.Op.TheVariants.{Create, Mkdir, Symlink, Store, Setattr, Remove, Rmdir, Rename}
use Rattle.coda_fid.specs.declared.op.Over.{Over}
use Rattle.coda_fid.specs.declared.op.Record.{Record}
use Rattle.coda_tree.specs.Volume.{Nodes, Edit, Put, Bind, TakeOut, Unbind, Write, written}
use Rattle.coda_tree.specs.declared.node.Node.{Node}
use Rattle.coda_certify.specs.Replay.{effects, sid_of, applied}
use Rattle.coda_cancel.specs.Dropping.{creates, writes}
use Rattle.coda_cancel.proofs.Keys.{fid_true, fid_same}
use Rattle.coda_overlay.specs.Objects.{edited_at, all_edited_at}
use Rattle.coda_overlay.proofs.Copies.{get-applied}
use Rattle.coda_versions.specs.Versions.{NamesRecord, gives_version, binds_in, IsOtherwiseSame, IsFromBefore}
use Rattle.coda_versions.specs.Versions.{OperationsLeaveVersions}

some_is : (a b : Node) → Some a ≡ Some b → a ≡ b
some_is a b e = cc

no_node : (a : Node) → None ≡ Some a → ⊥
no_node a e = cc

other_way : (a b : Fid) → same_fid a b ≡ true → same_fid b a ≡ true
other_way a b e = fid_same b a (sym (fid_true a b e))

not_other_way : (a b : Fid) → same_fid a b ≡ false → same_fid b a ≡ false
not_other_way a b e = false_from_ne_true _ (λ h. false≢true (sym e ∙ other_way b a h))

-- ---- what is created or written

alone : (b : Bool) → (b || false) ≡ true → b ≡ true
alone true e = refl
alone false e = e

-- what is put there stands there
put_is : (f fid : Fid) (made : Node) (o : Option Node) (node : Node) → same_fid fid f ≡ true
    → edited_at f (Put fid made) o ≡ Some node → made ≡ node
put_is f fid made o node e is = some_is made node (sym (ap (λ b. cond b (Some made) o) (other_way fid f e)) ∙ is)

mapped : (g : Node → Node) (o : Option Node) (node : Node) → option_map g o ≡ Some node → (old : Node) × (g old ≡ node)
mapped g None node e = absurd (no_node node e)
mapped g (Some old) node e = (old, some_is (g old) node e)

-- what is written has the version
write_is : (f fid : Fid) (g : Node → Node) (o : Option Node) (node : Node) → same_fid fid f ≡ true
    → cond (same_fid f fid) (option_map g o) o ≡ Some node → (old : Node) × (g old ≡ node)
write_is f fid g o node e is = mapped g o node (sym (ap (λ b. cond b (option_map g o) o) (other_way fid f e)) ∙ is)

after_is : (m : Nodes) (client : ℕ) (rec : Record) (f : Fid) (node : Node) → map.get (applied m client rec) f ≡ Some node
    → all_edited_at f (effects rec.time (sid_of client rec) rec.op) (map.get m f) ≡ Some node
after_is m client rec f node is = sym (get-applied f client rec m) ∙ is

-- what is made has the time, no mark, and the version
made_parts : (time : ℕ) (sid : Sid) (op : Op) (f : Fid) (o : Option Node) (node : Node) → creates f op ≡ true
    → all_edited_at f (effects time sid op) o ≡ Some node → (node.mtime ≡ time) × (node.marked ≡ false) × (node.sid ≡ sid)
made_parts time sid (Create dir name fid mode owner) f o node e is =
    let n = sym (put_is f fid _ (edited_at f (Bind dir name fid) o) node e is) in
    (ap (λ (x : Node). x.mtime) n, ap (λ (x : Node). x.marked) n, ap (λ (x : Node). x.sid) n)
made_parts time sid (Mkdir dir name fid mode owner) f o node e is =
    let n = sym (put_is f fid _ (edited_at f (Bind dir name fid) o) node e is) in
    (ap (λ (x : Node). x.mtime) n, ap (λ (x : Node). x.marked) n, ap (λ (x : Node). x.sid) n)
made_parts time sid (Symlink dir name fid target mode owner) f o node e is =
    let n = sym (put_is f fid _ (edited_at f (Bind dir name fid) o) node e is) in
    (ap (λ (x : Node). x.mtime) n, ap (λ (x : Node). x.marked) n, ap (λ (x : Node). x.sid) n)
made_parts time sid (Store fid pre content) f o node e is = absurd (false≢true e)
made_parts time sid (Setattr fid pre attrs) f o node e is = absurd (false≢true e)
made_parts time sid (Remove dir name fid pre) f o node e is = absurd (false≢true e)
made_parts time sid (Rmdir dir name fid pre) f o node e is = absurd (false≢true e)
made_parts time sid (Rename from_dir from to_dir to fid over) f o node e is = absurd (false≢true e)

given : (time : ℕ) (sid : Sid) (op : Op) (f : Fid) (o : Option Node) (node : Node) → gives_version f op ≡ true
    → all_edited_at f (effects time sid op) o ≡ Some node → node.sid ≡ sid
given time sid (Create dir name fid mode owner) f o node e is = (made_parts time sid (Create dir name fid mode owner) f o node (alone (same_fid fid f) e) is).2
given time sid (Mkdir dir name fid mode owner) f o node e is = (made_parts time sid (Mkdir dir name fid mode owner) f o node (alone (same_fid fid f) e) is).2
given time sid (Symlink dir name fid target mode owner) f o node e is = (made_parts time sid (Symlink dir name fid target mode owner) f o node (alone (same_fid fid f) e) is).2
given time sid (Store fid pre content) f o node e is = (let w = write_is f fid _ o node e is in ap (λ (x : Node). x.sid) (sym w.1))
given time sid (Setattr fid pre attrs) f o node e is = (let w = write_is f fid _ o node e is in ap (λ (x : Node). x.sid) (sym w.1))
given time sid (Remove dir name fid pre) f o node e is = absurd (false≢true e)
given time sid (Rmdir dir name fid pre) f o node e is = absurd (false≢true e)
given time sid (Rename from_dir from to_dir to fid over) f o node e is = absurd (false≢true e)

-- ---- any other object

-- whether an edit puts or writes the object; and whether it binds or unbinds in it
abbrev touches : Fid → Edit → Bool
touches f (Put fid node) = same_fid f fid
touches f (Bind dir name fid) = false
touches f (TakeOut fid) = false
touches f (Unbind dir name) = false
touches f (Write fid patch sid) = same_fid f fid

abbrev rebinds : Fid → Edit → Bool
rebinds f (Put fid node) = false
rebinds f (Bind dir name fid) = same_fid f dir
rebinds f (TakeOut fid) = false
rebinds f (Unbind dir name) = same_fid f dir
rebinds f (Write fid patch sid) = false

record IsLeftFrom (o : Option Node) (new : Node) (bound : Bool) : Type 0 where
  old : Node
  there : o ≡ Some old
  same : IsOtherwiseSame old new
  whole : bound ≡ false → new ≡ old

same_node : (node : Node) → IsOtherwiseSame node node
same_node node = record { version = refl; time = refl; mode = refl; owner = refl; mark = refl }

stays : (o : Option Node) (node : Node) (bound : Bool) → o ≡ Some node → IsLeftFrom o node bound
stays o node bound is = record { old = node; there = is; same = same_node node; whole = λ e. refl }

-- a directory in which a name is bound or unbound
in_dir : (b : Bool) (g : Node → Node) (o : Option Node) (node : Node) → ((x : Node) → IsOtherwiseSame x (g x))
    → cond b (option_map g o) o ≡ Some node → IsLeftFrom o node b
in_dir true g None node keeps is = absurd (no_node node is)
in_dir true g (Some old) node keeps is =
    let n = some_is (g old) node is in
    record { old = old; there = refl; same = subst (IsOtherwiseSame old) n (keeps old); whole = λ e. absurd (false≢true (sym e)) }
in_dir false g o node keeps is = stays o node false is

edit_left : (f : Fid) (e : Edit) (o : Option Node) (node : Node) → touches f e ≡ false → edited_at f e o ≡ Some node
    → IsLeftFrom o node (rebinds f e)
edit_left f (Put fid made) o node t is = stays o node false (sym (ap (λ b. cond b (Some made) o) t) ∙ is)
edit_left f (Bind dir name fid) o node t is = in_dir (same_fid f dir) _ o node (λ x. record { version = refl; time = refl; mode = refl; owner = refl; mark = refl }) is
edit_left f (TakeOut fid) o node t is = gone (same_fid f fid) o node is
  where
    gone : (b : Bool) (o : Option Node) (node : Node) → cond b None o ≡ Some node → IsLeftFrom o node false
    gone true o node is = absurd (no_node node is)
    gone false o node is = stays o node false is
edit_left f (Unbind dir name) o node t is = in_dir (same_fid f dir) _ o node (λ x. record { version = refl; time = refl; mode = refl; owner = refl; mark = refl }) is
edit_left f (Write fid patch sid) o node t is = stays o node false (sym (ap (λ b. cond b (option_map (written patch sid) o) o) t) ∙ is)

abbrev none_touch : Fid → List Edit → Type 0
none_touch f [] = Unit {0}
none_touch f (e ∷ es) = (touches f e ≡ false) × none_touch f es

abbrev any_rebinds : Fid → List Edit → Bool
any_rebinds f [] = false
any_rebinds f (e ∷ es) = rebinds f e || any_rebinds f es

both_left : (a b : Bool) (o mid : Option Node) (node : Node) → ((x : Node) → mid ≡ Some x → IsLeftFrom o x a) → IsLeftFrom mid node b
    → IsLeftFrom o node (a || b)
both_left a b o mid node first second =
    let one = first second.old second.there in
    record {
      old = one.old;
      there = one.there;
      same = record {
        version = second.same.version ∙ one.same.version;
        time = second.same.time ∙ one.same.time;
        mode = second.same.mode ∙ one.same.mode;
        owner = second.same.owner ∙ one.same.owner;
        mark = second.same.mark ∙ one.same.mark;
      };
      whole = λ e. (let p = or_parts a b e in second.whole p.1 ∙ one.whole p.0);
    }

edits_left : (f : Fid) (es : List Edit) (o : Option Node) (node : Node) → none_touch f es → all_edited_at f es o ≡ Some node
    → IsLeftFrom o node (any_rebinds f es)
edits_left f [] o node none is = stays o node false is
edits_left f (e ∷ es) o node none is = both_left (rebinds f e) (any_rebinds f es) o (edited_at f e o) node
    (λ x there. edit_left f e o x none.0 there) (edits_left f es (edited_at f e o) node none.1 is)

-- the edits of an operation touch what it creates or writes alone
untouched : (f : Fid) (time : ℕ) (sid : Sid) (op : Op) → gives_version f op ≡ false → none_touch f (effects time sid op)
untouched f time sid (Create dir name fid mode owner) e = (refl, (not_other_way fid f (or_parts _ _ e).0, tt))
untouched f time sid (Mkdir dir name fid mode owner) e = (refl, (not_other_way fid f (or_parts _ _ e).0, tt))
untouched f time sid (Symlink dir name fid target mode owner) e = (refl, (not_other_way fid f (or_parts _ _ e).0, tt))
untouched f time sid (Store fid pre content) e = (not_other_way fid f e, tt)
untouched f time sid (Setattr fid pre attrs) e = (not_other_way fid f e, tt)
untouched f time sid (Remove dir name fid pre) e = (refl, (refl, tt))
untouched f time sid (Rmdir dir name fid pre) e = (refl, (refl, tt))
untouched f time sid (Rename from_dir from to_dir to fid None) e = (refl, (refl, tt))
untouched f time sid (Rename from_dir from to_dir to fid (Some v)) e = (refl, (refl, (refl, tt)))

-- and bind in its directories alone
left_none : (b : Bool) → b ≡ false → (b || false) ≡ false
left_none true e = e
left_none false e = refl

rebound : (f : Fid) (time : ℕ) (sid : Sid) (op : Op) → binds_in f op ≡ false → any_rebinds f (effects time sid op) ≡ false
rebound f time sid (Create dir name fid mode owner) e = left_none (same_fid f dir) e
rebound f time sid (Mkdir dir name fid mode owner) e = left_none (same_fid f dir) e
rebound f time sid (Symlink dir name fid target mode owner) e = left_none (same_fid f dir) e
rebound f time sid (Store fid pre content) e = refl
rebound f time sid (Setattr fid pre attrs) e = refl
rebound f time sid (Remove dir name fid pre) e = left_none (same_fid f dir) e
rebound f time sid (Rmdir dir name fid pre) e = left_none (same_fid f dir) e
rebound f time sid (Rename from_dir from to_dir to fid None) e = (let p = or_parts (same_fid f from_dir) (same_fid f to_dir) e in ap (λ b. b || (same_fid f to_dir || false)) p.0 ∙ left_none (same_fid f to_dir) p.1)
rebound f time sid (Rename from_dir from to_dir to fid (Some v)) e = (let p = or_parts (same_fid f from_dir) (same_fid f to_dir) e in ap (λ b. b || (same_fid f to_dir || false)) p.0 ∙ left_none (same_fid f to_dir) p.1)

-- ---- the law

pub versions_left : OperationsLeaveVersions
versions_left = record {
  created = λ m client rec fid node e is. (let p = made_parts rec.time (sid_of client rec) rec.op fid (map.get m fid) node e (after_is m client rec fid node is) in (p.0, p.1));
  versioned = λ m client rec fid node e is. (let v = given rec.time (sid_of client rec) rec.op fid (map.get m fid) node e (after_is m client rec fid node is) in
      record { client_is = ap (λ (s : Sid). s.client) v; number_is = ap (λ (s : Sid). s.number) v });
  other = λ m client rec fid node e is. (let l = edits_left fid (effects rec.time (sid_of client rec) rec.op) (map.get m fid) node (untouched fid rec.time (sid_of client rec) rec.op e) (after_is m client rec fid node is) in
      record { old = l.old; there = l.there; same = l.same; whole = λ b. l.whole (rebound fid rec.time (sid_of client rec) rec.op b) });
}
