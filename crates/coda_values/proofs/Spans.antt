-- How many bytes each value has where it is written.
use Rattle.std.proofs.Common.{◌≡◌, ℕ, ◌+◌, ◌≤◌, List, [], ◌∷◌, length, Option, Some, None, refl, ap, ◌∙◌, arith, ◌<◌}
use Rattle.std.specs.Prelude.{IsTrue, nat_lt, nat_le, ◌&&◌, true}
use Rattle.std.specs.List.{flat_map}
use Rattle.std.proofs.lemmas.List.{length-append}
use Rattle.std.proofs.lemmas.Bool.{ltb-true, leb-true}
use Rattle.coda_fid.specs.declared.fid.Fid.{Fid}
use Rattle.coda_fid.specs.declared.fid.Sid.{Sid}
use Rattle.coda_fid.specs.declared.op.Attrs.{Attrs}
use Rattle.coda_fid.specs.declared.op.Over.{Over}
use Rattle.coda_fid.specs.declared.op.Record.{Record}
use Rattle.coda_fid.specs.declared.op.Op.TheVariants.{Create, Mkdir, Symlink, Store, Setattr, Remove, Rmdir, Rename}
use Rattle.coda_certify.specs.declared.reason.Reason.{Reason}
use Rattle.coda_certify.specs.declared.reason.Reason.TheVariants.{NoDir, Marked, NoObject, WrongKind, NameTaken, NameOther, FidUsed, Changed, AttrChanged, NotEmpty, Loop, VolumeFull}
use Rattle.coda_values.specs.Form.{Piece, together, number_bytes, Size, one, two, four, eight}
use Rattle.coda_values.specs.Parts.{u8, u16, u32, u64, counted, optional, is_within}
use Rattle.coda_values.specs.Spelling.{HasSpelling}
use Rattle.coda_values.specs.Table.{name, target, content, fid, sid, over, attrs, bit, op, record_above, records, reason, where_set}
use Rattle.coda_values.proofs.PartsAgree.{first_true, second_true}
use Rattle.coda_values.proofs.RecordBytes.{records_bytes}

-- the bytes of a number of each size
abbrev pub size_bytes : Size → ℕ
size_bytes one = 1
size_bytes two = 2
size_bytes four = 4
size_bytes eight = 8

pub number_span : (size : Size) (n : ℕ) → length (number_bytes size n) ≡ size_bytes size
unfolding number_bytes
number_span one n = refl
number_span two n = refl
number_span four n = refl
number_span eight n = refl

-- the bytes of pieces together
abbrev pub spans : List Piece → ℕ
spans [] = 0
spans (p ∷ ps) = length p.bytes + spans ps

pub together_span : (ps : List Piece) → length (together ps).bytes ≡ spans ps
together_span [] = refl
together_span (p ∷ ps) = length-append p.bytes (together ps).bytes ∙ ap (λ (n : ℕ). length p.bytes + n) (together_span ps)

pub name_span : (n : List ℕ) → length (name.piece n).bytes ≡ 1 + length n
name_span n = length-append (number_bytes one (length n)) n ∙ ap (λ (k : ℕ). k + length n) (number_span one (length n))

pub counted_span : (n : List ℕ) → length ((counted u32).piece n).bytes ≡ 4 + length n
counted_span n = length-append (number_bytes four (length n)) n ∙ ap (λ (k : ℕ). k + length n) (number_span four (length n))

pub fid_span : (f : Fid) → length (fid.piece f).bytes ≡ 12
unfolding fid
fid_span f = together_span (u32.piece f.volume ∷ u32.piece f.vnode ∷ u32.piece f.uniq ∷ []) ∙ rw (number_span four f.volume, number_span four f.vnode, number_span four f.uniq) refl

pub sid_span : (s : Sid) → length (sid.piece s).bytes ≡ 9
unfolding sid
sid_span s = together_span (u8.piece s.client ∷ u64.piece s.number ∷ []) ∙ rw (number_span one s.client, number_span eight s.number) refl

pub over_span : (o : Over) → length (over.piece o).bytes ≡ 21
unfolding over
over_span o = together_span (fid.piece o.fid ∷ sid.piece o.pre ∷ []) ∙ rw (fid_span o.fid, sid_span o.pre) refl

pub no_over_span : length ((optional over).piece None).bytes ≡ 1
no_over_span = together_span (u8.piece 0 ∷ []) ∙ rw (number_span one 0) refl

pub some_over_span : (o : Over) → length ((optional over).piece (Some o)).bytes ≡ 22
some_over_span o = together_span (u8.piece 1 ∷ over.piece o ∷ []) ∙ rw (number_span one 1, over_span o) refl

-- ---- attributes

pub no_u16_span : length (where_set u16 None).bytes ≡ 0
no_u16_span = refl

pub some_u16_span : (n : ℕ) → length (where_set u16 (Some n)).bytes ≡ 2
some_u16_span n = number_span two n

pub some_u32_span : (n : ℕ) → length (where_set u32 (Some n)).bytes ≡ 4
some_u32_span n = number_span four n

pub some_u64_span : (n : ℕ) → length (where_set u64 (Some n)).bytes ≡ 8
some_u64_span n = number_span eight n

pub attrs_span : (a : Attrs) → length (attrs.piece a).bytes ≡ 1 + (length (where_set u16 a.mode).bytes + (length (where_set u32 a.owner).bytes + length (where_set u64 a.mtime).bytes))
unfolding attrs
attrs_span a = together_span (u8.piece (bit 1 a.mode + bit 2 a.owner + bit 4 a.mtime) ∷ where_set u16 a.mode ∷ where_set u32 a.owner ∷ where_set u64 a.mtime ∷ [])
    ∙ rw (number_span one (bit 1 a.mode + bit 2 a.owner + bit 4 a.mtime)) (omega arith)

-- ---- operations

pub create_span : (dir : Fid) (n : List ℕ) (f : Fid) (mode owner : ℕ) → length ((op four).piece (Create dir n f mode owner)).bytes ≡ 31 + length (name.piece n).bytes
unfolding op
create_span dir n f mode owner = together_span (u8.piece 1 ∷ fid.piece dir ∷ name.piece n ∷ fid.piece f ∷ u16.piece mode ∷ u32.piece owner ∷ [])
    ∙ rw (number_span one 1, fid_span dir, fid_span f, number_span two mode, number_span four owner) (omega arith)

pub mkdir_span : (dir : Fid) (n : List ℕ) (f : Fid) (mode owner : ℕ) → length ((op four).piece (Mkdir dir n f mode owner)).bytes ≡ 31 + length (name.piece n).bytes
unfolding op
mkdir_span dir n f mode owner = together_span (u8.piece 2 ∷ fid.piece dir ∷ name.piece n ∷ fid.piece f ∷ u16.piece mode ∷ u32.piece owner ∷ [])
    ∙ rw (number_span one 2, fid_span dir, fid_span f, number_span two mode, number_span four owner) (omega arith)

pub symlink_span : (dir : Fid) (n : List ℕ) (f : Fid) (t : List ℕ) (mode owner : ℕ) → length ((op four).piece (Symlink dir n f t mode owner)).bytes ≡ 35 + length (name.piece n).bytes + length t
unfolding op
symlink_span dir n f t mode owner = together_span (u8.piece 3 ∷ fid.piece dir ∷ name.piece n ∷ fid.piece f ∷ (target four).piece t ∷ u16.piece mode ∷ u32.piece owner ∷ [])
    ∙ rw (number_span one 3, fid_span dir, fid_span f, counted_span t, number_span two mode, number_span four owner) (omega arith)

pub store_span : (f : Fid) (pre : Sid) (c : List ℕ) → length ((op four).piece (Store f pre c)).bytes ≡ 26 + length c
unfolding op
store_span f pre c = together_span (u8.piece 4 ∷ fid.piece f ∷ sid.piece pre ∷ (content four).piece c ∷ [])
    ∙ rw (number_span one 4, fid_span f, sid_span pre, counted_span c) (omega arith)

pub setattr_span : (f : Fid) (pre : Sid) (a : Attrs) → length ((op four).piece (Setattr f pre a)).bytes ≡ 22 + length (attrs.piece a).bytes
unfolding op
setattr_span f pre a = together_span (u8.piece 5 ∷ fid.piece f ∷ sid.piece pre ∷ attrs.piece a ∷ [])
    ∙ rw (number_span one 5, fid_span f, sid_span pre) (omega arith)

pub remove_span : (dir : Fid) (n : List ℕ) (f : Fid) (pre : Sid) → length ((op four).piece (Remove dir n f pre)).bytes ≡ 34 + length (name.piece n).bytes
unfolding op
remove_span dir n f pre = together_span (u8.piece 6 ∷ fid.piece dir ∷ name.piece n ∷ fid.piece f ∷ sid.piece pre ∷ [])
    ∙ rw (number_span one 6, fid_span dir, fid_span f, sid_span pre) (omega arith)

pub rmdir_span : (dir : Fid) (n : List ℕ) (f : Fid) (pre : Sid) → length ((op four).piece (Rmdir dir n f pre)).bytes ≡ 34 + length (name.piece n).bytes
unfolding op
rmdir_span dir n f pre = together_span (u8.piece 7 ∷ fid.piece dir ∷ name.piece n ∷ fid.piece f ∷ sid.piece pre ∷ [])
    ∙ rw (number_span one 7, fid_span dir, fid_span f, sid_span pre) (omega arith)

pub rename_span : (from_dir : Fid) (from : List ℕ) (to_dir : Fid) (to : List ℕ) (f : Fid) (o : Option Over)
    → length ((op four).piece (Rename from_dir from to_dir to f o)).bytes ≡ 37 + length (name.piece from).bytes + length (name.piece to).bytes + length ((optional over).piece o).bytes
unfolding op
rename_span from_dir from to_dir to f o = together_span (u8.piece 8 ∷ fid.piece from_dir ∷ name.piece from ∷ fid.piece to_dir ∷ name.piece to ∷ fid.piece f ∷ (optional over).piece o ∷ [])
    ∙ rw (number_span one 8, fid_span from_dir, fid_span to_dir, fid_span f) (omega arith)

-- ---- records

pub record_span : (before : ℕ) (r : Record) → length ((record_above four before).piece r).bytes ≡ 16 + length ((op four).piece r.op).bytes
unfolding record_above
record_span before r = together_span (u64.piece r.number ∷ u64.piece r.time ∷ (op four).piece r.op ∷ [])
    ∙ rw (number_span eight r.number, number_span eight r.time) (omega arith)

-- ---- reasons

pub no_fid_span : length ((optional fid).piece None).bytes ≡ 1
no_fid_span = together_span (u8.piece 0 ∷ []) ∙ rw (number_span one 0) refl

pub some_fid_span : (f : Fid) → length ((optional fid).piece (Some f)).bytes ≡ 13
some_fid_span f = together_span (u8.piece 1 ∷ fid.piece f ∷ []) ∙ rw (number_span one 1, fid_span f) refl

-- a tag alone, and a tag before a fid, before two sids, before a number
pub tag_span : (tag : ℕ) → length (together (u8.piece tag ∷ [])).bytes ≡ 1
tag_span tag = together_span (u8.piece tag ∷ []) ∙ rw (number_span one tag) refl

tag_fid_span : (tag : ℕ) (f : Fid) → length (together (u8.piece tag ∷ fid.piece f ∷ [])).bytes ≡ 13
tag_fid_span tag f = together_span (u8.piece tag ∷ fid.piece f ∷ []) ∙ rw (number_span one tag, fid_span f) refl

tag_sids_span : (tag : ℕ) (s t : Sid) → length (together (u8.piece tag ∷ sid.piece s ∷ sid.piece t ∷ [])).bytes ≡ 19
tag_sids_span tag s t = together_span (u8.piece tag ∷ sid.piece s ∷ sid.piece t ∷ []) ∙ rw (number_span one tag, sid_span s, sid_span t) refl

pub tag_u64_span : (tag n : ℕ) → length (together (u8.piece tag ∷ u64.piece n ∷ [])).bytes ≡ 9
tag_u64_span tag n = together_span (u8.piece tag ∷ u64.piece n ∷ []) ∙ rw (number_span one tag, number_span eight n) refl

-- what a reason's bytes are, but for the fid that a name is bound to
abbrev pub reason_span : Reason → ℕ
reason_span (NoDir f) = 13
reason_span (Marked f) = 13
reason_span (NoObject f) = 13
reason_span (WrongKind f) = 13
reason_span (NameTaken f) = 13
reason_span (NameOther f) = 1 + length ((optional fid).piece f).bytes
reason_span (FidUsed f) = 13
reason_span (Changed kept found) = 19
reason_span (AttrChanged kept found) = 19
reason_span NotEmpty = 1
reason_span Loop = 1
reason_span (VolumeFull n) = 9

pub reason_bytes : (r : Reason) → length (reason.piece r).bytes ≡ reason_span r
unfolding reason
reason_bytes (NoDir f) = tag_fid_span 1 f
reason_bytes (Marked f) = tag_fid_span 2 f
reason_bytes (NoObject f) = tag_fid_span 3 f
reason_bytes (WrongKind f) = tag_fid_span 4 f
reason_bytes (NameTaken f) = tag_fid_span 5 f
reason_bytes (NameOther f) = together_span (u8.piece 6 ∷ (optional fid).piece f ∷ []) ∙ rw (number_span one 6) (omega arith)
reason_bytes (FidUsed f) = tag_fid_span 7 f
reason_bytes (Changed kept found) = tag_sids_span 8 kept found
reason_bytes (AttrChanged kept found) = tag_sids_span 9 kept found
reason_bytes NotEmpty = tag_span 10
reason_bytes Loop = tag_span 11
reason_bytes (VolumeFull n) = tag_u64_span 12 n

-- ---- lists of records

pub records_span : (rs : List Record) → length ((records four).piece rs).bytes ≡ 4 + length (flat_map (λ r. ((record_above four 0).piece r).bytes) rs)
unfolding records
records_span rs = length-append (number_bytes four (length rs)) _ ∙ rw (number_span four (length rs), records_bytes rs) refl

pub few_records : (rs : List Record) → HasSpelling (records four) rs → length rs < 4294967296
unfolding records
few_records rs fits = ltb-true _ _ (first_true _ _ fits)

-- ---- limits of what has a spelling

within_most : (low high n : ℕ) → IsTrue (is_within low high n) → n ≤ high
within_most low high n h = leb-true _ _ (second_true (nat_le low n) (nat_le n high) h)

pub target_small : (dir : Fid) (n : List ℕ) (f : Fid) (t : List ℕ) (mode owner : ℕ) → HasSpelling (op four) (Symlink dir n f t mode owner) → length t ≤ 1024
unfolding op
target_small dir n f t mode owner fits =
    let behind_dir = second_true (fid.piece dir).fits ((name.piece n).fits && ((fid.piece f).fits && (((target four).piece t).fits && ((u16.piece mode).fits && ((u32.piece owner).fits && true))))) fits in
    let behind_name = second_true (name.piece n).fits ((fid.piece f).fits && (((target four).piece t).fits && ((u16.piece mode).fits && ((u32.piece owner).fits && true)))) behind_dir in
    let behind_fid = second_true (fid.piece f).fits (((target four).piece t).fits && ((u16.piece mode).fits && ((u32.piece owner).fits && true))) behind_name in
    let counted_fits = first_true ((target four).piece t).fits ((u16.piece mode).fits && ((u32.piece owner).fits && true)) behind_fid in
    within_most 1 1024 (length t) (second_true (nat_lt (length t) 4294967296) (is_within 1 1024 (length t)) (first_true (nat_lt (length t) 4294967296 && is_within 1 1024 (length t)) true counted_fits))

pub content_small : (f : Fid) (pre : Sid) (c : List ℕ) → HasSpelling (op four) (Store f pre c) → length c ≤ 1048576
unfolding op
content_small f pre c fits =
    let behind_fid = second_true (fid.piece f).fits ((sid.piece pre).fits && (((content four).piece c).fits && true)) fits in
    let behind_sid = second_true (sid.piece pre).fits (((content four).piece c).fits && true) behind_fid in
    let counted_fits = first_true ((content four).piece c).fits true behind_sid in
    within_most 0 1048576 (length c) (second_true (nat_lt (length c) 4294967296) (is_within 0 1048576 (length c)) (first_true (nat_lt (length c) 4294967296 && is_within 0 1048576 (length c)) true counted_fits))
