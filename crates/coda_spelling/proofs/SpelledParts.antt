-- When the parts of an operation can be spelled, and then the operation.
use Rattle.std.proofs.Common.{◌≡◌, ℕ, ◌<◌, ◌≤◌, Bool, true, false, ◌&&◌, ◌||◌, not, List, length, Option, Some, None, is_some, refl, arith}
use Rattle.std.specs.Prelude.{nat_lt, nat_le, ◌==◌, IfSome}
use Rattle.std.proofs.lemmas.Bool.{lt-ltb, le-leb, leb-true}
use Rattle.coda_fid.specs.Name.{is_name, is_dots_name, all_plain_bytes}
use Rattle.coda_fid.specs.declared.fid.Fid.{Fid}
use Rattle.coda_fid.specs.declared.fid.Sid.{Sid}
use Rattle.coda_fid.specs.declared.op.Attrs.{Attrs}
use Rattle.coda_fid.specs.declared.op.Over.{Over}
use Rattle.coda_fid.specs.declared.op.Op.{Op}
use Rattle.coda_fid.specs.declared.op.Op.TheVariants.{Create, Mkdir, Symlink, Store, Setattr, Remove, Rmdir, Rename}
use Rattle.coda_record.specs.Form.{four}
use Rattle.coda_record.specs.Parts.{u8, u16, u32, between, number_of, optional}
use Rattle.coda_record.specs.Form.{Size, limit_of}
use Rattle.coda_record.specs.Spelling.{HasSpelling}
use Rattle.coda_record.specs.Table as table
use Rattle.coda_record.proofs.PartsAgree.{first_true, second_true}

-- both hold
pub both_true : (a b : Bool) → a ≡ true → b ≡ true → (a && b) ≡ true
both_true true b h k = k
both_true false b h k = h

-- ---- numbers

-- a number within its limits
pub within : (low high : ℕ) (size : Size) (n : ℕ) → low ≤ n → n ≤ high → n < limit_of size → HasSpelling (between low high (number_of size)) n
within low high size n above below fits = both_true (nat_lt n (limit_of size)) (nat_le low n && nat_le n high) (lt-ltb n (limit_of size) fits) (both_true (nat_le low n) (nat_le n high) (le-leb low n above) (le-leb n high below))

pub is_within : (low high : ℕ) (size : Size) (n : ℕ) → HasSpelling (between low high (number_of size)) n → (low ≤ n) × (n ≤ high)
is_within low high size n fits =
    let test = second_true (nat_lt n (limit_of size)) (nat_le low n && nat_le n high) fits in
    (leb-true low n (first_true (nat_le low n) (nat_le n high) test), leb-true n high (second_true (nat_le low n) (nat_le n high) test))

pub below : (size : Size) (n : ℕ) → n < limit_of size → HasSpelling (number_of size) n
below size n fits = lt-ltb n (limit_of size) fits

-- ---- names, objects and versions

name_length : (bs : List ℕ) → is_name bs ≡ true → length bs < 256
name_length bs is =
    let some = not (length bs == 0) in
    let short = nat_le (length bs) 255 in
    let few = leb-true (length bs) 255 (second_true some short (first_true (some && short) (not (is_dots_name bs)) (first_true (some && short && not (is_dots_name bs)) (all_plain_bytes bs) is))) in
    omega (arith, few)

pub name_spelled : (bs : List ℕ) → is_name bs ≡ true → HasSpelling table.name bs
name_spelled bs is = both_true (nat_lt (length bs) 256 && true) (is_name bs) (both_true (nat_lt (length bs) 256) true (lt-ltb (length bs) 256 (name_length bs is)) refl) is

pub fid_spelled : (f : Fid) → f.volume < 4294967296 → f.vnode < 4294967296 → f.uniq < 4294967296 → HasSpelling table.fid f
unfolding table.fid
fid_spelled f v n u =
    both_true (nat_lt f.volume 4294967296) (nat_lt f.vnode 4294967296 && (nat_lt f.uniq 4294967296 && true)) (lt-ltb f.volume 4294967296 v)
    (both_true (nat_lt f.vnode 4294967296) (nat_lt f.uniq 4294967296 && true) (lt-ltb f.vnode 4294967296 n) (both_true (nat_lt f.uniq 4294967296) true (lt-ltb f.uniq 4294967296 u) refl))

pub sid_spelled : (s : Sid) → HasSpelling u8 s.client → HasSpelling table.count s.number → HasSpelling table.sid s
unfolding table.sid
sid_spelled s c n = both_true _ _ c (both_true _ _ n refl)

pub over_spelled : (o : Over) → HasSpelling table.fid o.fid → HasSpelling table.sid o.pre → HasSpelling table.over o
unfolding table.over
over_spelled o f s = both_true _ _ f (both_true _ _ s refl)

pub over_parts : (o : Over) → HasSpelling table.over o → HasSpelling table.fid o.fid × HasSpelling table.sid o.pre
unfolding table.over
over_parts o is = (first_true _ _ is, first_true _ _ (second_true _ _ is))

-- a replaced object, where there is one
abbrev pub IsOverSpelled : Option Over → Type 0
IsOverSpelled o = HasSpelling (optional table.over) o

pub some_over : (o : Over) → HasSpelling table.over o → IsOverSpelled (Some o)
some_over o is = both_true _ _ is refl

pub over_some : (o : Over) → IsOverSpelled (Some o) → HasSpelling table.over o
over_some o is = first_true _ _ is

-- ---- attributes

pub attrs_spelled : (a : Attrs) → IfSome a.mode (λ m. m < 65536) → IfSome a.owner (λ o. o < 4294967296) → IfSome a.mtime (λ t. t < 18446744073709551616) → (is_some a.mode || (is_some a.owner || is_some a.mtime)) ≡ true → HasSpelling table.attrs a
unfolding table.attrs
attrs_spelled a mode owner mtime some = by a.mode a.owner a.mtime mode owner mtime some
  where
    by : (m o t : Option ℕ) → IfSome m (λ x. x < 65536) → IfSome o (λ x. x < 4294967296) → IfSome t (λ x. x < 18446744073709551616) → (is_some m || (is_some o || is_some t)) ≡ true → (table.attrs_piece m o t).fits ≡ true
    by None None None hm ho ht some = some
    by (Some m) None None hm ho ht some = both_true _ _ (lt-ltb m 65536 hm) refl
    by None (Some o) None hm ho ht some = both_true _ _ (lt-ltb o 4294967296 ho) refl
    by None None (Some t) hm ho ht some = both_true _ _ (lt-ltb t 18446744073709551616 ht) refl
    by (Some m) (Some o) None hm ho ht some = both_true _ _ (lt-ltb m 65536 hm) (both_true _ _ (lt-ltb o 4294967296 ho) refl)
    by (Some m) None (Some t) hm ho ht some = both_true _ _ (lt-ltb m 65536 hm) (both_true _ _ (lt-ltb t 18446744073709551616 ht) refl)
    by None (Some o) (Some t) hm ho ht some = both_true _ _ (lt-ltb o 4294967296 ho) (both_true _ _ (lt-ltb t 18446744073709551616 ht) refl)
    by (Some m) (Some o) (Some t) hm ho ht some = both_true _ _ (lt-ltb m 65536 hm) (both_true _ _ (lt-ltb o 4294967296 ho) (both_true _ _ (lt-ltb t 18446744073709551616 ht) refl))

-- ---- operations

abbrev pub IsOpSpelled : Op → Type 0
IsOpSpelled op = HasSpelling (table.op four) op

pub create_spelled : (dir : Fid) (name : List ℕ) (fid : Fid) (mode owner : ℕ) → HasSpelling table.fid dir → HasSpelling table.name name → HasSpelling table.fid fid → HasSpelling u16 mode → HasSpelling u32 owner → IsOpSpelled (Create dir name fid mode owner)
unfolding table.op
create_spelled dir name fid mode owner d n f m o = both_true _ _ d (both_true _ _ n (both_true _ _ f (both_true _ _ m (both_true _ _ o refl))))

pub mkdir_spelled : (dir : Fid) (name : List ℕ) (fid : Fid) (mode owner : ℕ) → HasSpelling table.fid dir → HasSpelling table.name name → HasSpelling table.fid fid → HasSpelling u16 mode → HasSpelling u32 owner → IsOpSpelled (Mkdir dir name fid mode owner)
unfolding table.op
mkdir_spelled dir name fid mode owner d n f m o = both_true _ _ d (both_true _ _ n (both_true _ _ f (both_true _ _ m (both_true _ _ o refl))))

pub symlink_spelled : (dir : Fid) (name : List ℕ) (fid : Fid) (target : List ℕ) (mode owner : ℕ) → HasSpelling table.fid dir → HasSpelling table.name name → HasSpelling table.fid fid → HasSpelling (table.target four) target → HasSpelling u16 mode → HasSpelling u32 owner
    → IsOpSpelled (Symlink dir name fid target mode owner)
unfolding table.op
symlink_spelled dir name fid target mode owner d n f t m o = both_true _ _ d (both_true _ _ n (both_true _ _ f (both_true _ _ t (both_true _ _ m (both_true _ _ o refl)))))

pub store_spelled : (fid : Fid) (pre : Sid) (content : List ℕ) → HasSpelling table.fid fid → HasSpelling table.sid pre → HasSpelling (table.content four) content → IsOpSpelled (Store fid pre content)
unfolding table.op
store_spelled fid pre content f s c = both_true _ _ f (both_true _ _ s (both_true _ _ c refl))

pub setattr_spelled : (fid : Fid) (pre : Sid) (attrs : Attrs) → HasSpelling table.fid fid → HasSpelling table.sid pre → HasSpelling table.attrs attrs → IsOpSpelled (Setattr fid pre attrs)
unfolding table.op
setattr_spelled fid pre attrs f s a = both_true _ _ f (both_true _ _ s (both_true _ _ a refl))

pub remove_spelled : (dir : Fid) (name : List ℕ) (fid : Fid) (pre : Sid) → HasSpelling table.fid dir → HasSpelling table.name name → HasSpelling table.fid fid → HasSpelling table.sid pre → IsOpSpelled (Remove dir name fid pre)
unfolding table.op
remove_spelled dir name fid pre d n f s = both_true _ _ d (both_true _ _ n (both_true _ _ f (both_true _ _ s refl)))

pub rmdir_spelled : (dir : Fid) (name : List ℕ) (fid : Fid) (pre : Sid) → HasSpelling table.fid dir → HasSpelling table.name name → HasSpelling table.fid fid → HasSpelling table.sid pre → IsOpSpelled (Rmdir dir name fid pre)
unfolding table.op
rmdir_spelled dir name fid pre d n f s = both_true _ _ d (both_true _ _ n (both_true _ _ f (both_true _ _ s refl)))

pub rename_spelled : (from_dir : Fid) (from : List ℕ) (to_dir : Fid) (to : List ℕ) (fid : Fid) (over : Option Over) → HasSpelling table.fid from_dir → HasSpelling table.name from → HasSpelling table.fid to_dir → HasSpelling table.name to → HasSpelling table.fid fid → IsOverSpelled over
    → IsOpSpelled (Rename from_dir from to_dir to fid over)
unfolding table.op
rename_spelled from_dir from to_dir to fid over d n e k f o = both_true _ _ d (both_true _ _ n (both_true _ _ e (both_true _ _ k (both_true _ _ f (both_true _ _ o refl)))))

-- what spelled operations are made of

pub store_parts : (fid : Fid) (pre : Sid) (content : List ℕ) → IsOpSpelled (Store fid pre content) → HasSpelling table.fid fid × HasSpelling table.sid pre × HasSpelling (table.content four) content
unfolding table.op
store_parts fid pre content is = (first_true _ _ is, first_true _ _ (second_true _ _ is), first_true _ _ (second_true _ _ (second_true _ _ is)))

pub setattr_parts : (fid : Fid) (pre : Sid) (attrs : Attrs) → IsOpSpelled (Setattr fid pre attrs) → HasSpelling table.fid fid × HasSpelling table.sid pre × HasSpelling table.attrs attrs
unfolding table.op
setattr_parts fid pre attrs is = (first_true _ _ is, first_true _ _ (second_true _ _ is), first_true _ _ (second_true _ _ (second_true _ _ is)))

pub remove_parts : (dir : Fid) (name : List ℕ) (fid : Fid) (pre : Sid) → IsOpSpelled (Remove dir name fid pre) → HasSpelling table.fid dir × HasSpelling table.name name × HasSpelling table.fid fid × HasSpelling table.sid pre
unfolding table.op
remove_parts dir name fid pre is =
    let rest = second_true _ _ (second_true _ _ is) in
    (first_true _ _ is, first_true _ _ (second_true _ _ is), first_true _ _ rest, first_true _ _ (second_true _ _ rest))

pub rmdir_parts : (dir : Fid) (name : List ℕ) (fid : Fid) (pre : Sid) → IsOpSpelled (Rmdir dir name fid pre) → HasSpelling table.fid dir × HasSpelling table.name name × HasSpelling table.fid fid × HasSpelling table.sid pre
unfolding table.op
rmdir_parts dir name fid pre is =
    let rest = second_true _ _ (second_true _ _ is) in
    (first_true _ _ is, first_true _ _ (second_true _ _ is), first_true _ _ rest, first_true _ _ (second_true _ _ rest))

six_true : (a b c d e f : Bool) → (a && (b && (c && (d && (e && (f && true)))))) ≡ true → (a ≡ true) × (b ≡ true) × (c ≡ true) × (d ≡ true) × (e ≡ true) × (f ≡ true)
six_true a b c d e f is =
    let one = second_true a (b && (c && (d && (e && (f && true))))) is in
    let two = second_true b (c && (d && (e && (f && true)))) one in
    let three = second_true c (d && (e && (f && true))) two in
    let four = second_true d (e && (f && true)) three in
    let five = second_true e (f && true) four in (
      first_true a (b && (c && (d && (e && (f && true))))) is,
      first_true b (c && (d && (e && (f && true)))) one,
      first_true c (d && (e && (f && true))) two,
      first_true d (e && (f && true)) three,
      first_true e (f && true) four,
      first_true f true five,
    )

pub rename_parts : (from_dir : Fid) (from : List ℕ) (to_dir : Fid) (to : List ℕ) (fid : Fid) (over : Option Over) → IsOpSpelled (Rename from_dir from to_dir to fid over)
    → HasSpelling table.fid from_dir × HasSpelling table.name from × HasSpelling table.fid to_dir × HasSpelling table.name to × HasSpelling table.fid fid × IsOverSpelled over
unfolding table.op
rename_parts from_dir from to_dir to fid over is =
    six_true (table.fid.piece from_dir).fits (table.name.piece from).fits (table.fid.piece to_dir).fits (table.name.piece to).fits (table.fid.piece fid).fits ((optional table.over).piece over).fits is

-- the directory and the object of a creation

pub create_parts : (dir : Fid) (name : List ℕ) (fid : Fid) (mode owner : ℕ) → IsOpSpelled (Create dir name fid mode owner) → HasSpelling table.fid dir × HasSpelling table.fid fid
unfolding table.op
create_parts dir name fid mode owner is = (first_true _ _ is, first_true _ _ (second_true _ _ (second_true _ _ is)))

pub mkdir_parts : (dir : Fid) (name : List ℕ) (fid : Fid) (mode owner : ℕ) → IsOpSpelled (Mkdir dir name fid mode owner) → HasSpelling table.fid dir × HasSpelling table.fid fid
unfolding table.op
mkdir_parts dir name fid mode owner is = (first_true _ _ is, first_true _ _ (second_true _ _ (second_true _ _ is)))

pub symlink_parts : (dir : Fid) (name : List ℕ) (fid : Fid) (target : List ℕ) (mode owner : ℕ) → IsOpSpelled (Symlink dir name fid target mode owner) → HasSpelling table.fid dir × HasSpelling table.fid fid
unfolding table.op
symlink_parts dir name fid target mode owner is = (first_true _ _ is, first_true _ _ (second_true _ _ (second_true _ _ is)))
