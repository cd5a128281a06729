-- The formats of records and verdicts, version 1, each under its line of the table. Numbers have their most
-- significant byte first. A form says what is read, and a piece what is written.
use Rattle.std.specs.Prelude.{ℕ, ◌+◌, ◌&&◌, nat_lt, nat_le, Bool, List, [], ◌∷◌, Option, Some, None}
use Rattle.coda_fid.specs.declared.fid.Fid.{Fid}
use Rattle.coda_fid.specs.declared.fid.Sid.{Sid}
use Rattle.coda_fid.specs.declared.op.Attrs.{Attrs}
use Rattle.coda_fid.specs.declared.op.Over.{Over}
use Rattle.coda_fid.specs.declared.op.Op.{Op}
use Rattle.coda_fid.specs.declared.op.Op.TheVariants.{Create, Mkdir, Symlink, Store, Setattr, Remove, Rmdir, Rename}
use Rattle.coda_fid.specs.declared.op.Record.{Record}
use Rattle.coda_fid.specs.Name.{is_name}
use Rattle.coda_certify.specs.declared.reason.Reason.{Reason}
use Rattle.coda_certify.specs.declared.reason.Reason.TheVariants.{NoDir, Marked, NoObject, WrongKind, NameTaken, NameOther, FidUsed, Changed, AttrChanged, NotEmpty, Loop, VolumeFull}
use Rattle.coda_certify.specs.declared.verdict.Verdict.{Verdict}
use Rattle.coda_certify.specs.declared.verdict.Verdict.TheVariants as verdicts
use Rattle.coda_values.specs.Form.{Piece, empty, together, Size, Form, gives, Format, ◌>>=◌}
use Rattle.coda_values.specs.Parts.{number_of, u8, u16, u32, u64, where_holds, between, counted, one_of, optional, list}

-- ---- numbers and bytes, each in its range

-- a client: 1 to 255
abbrev pub client : Format ℕ
client = between 1 255 u8

-- a server: 1 to 8
abbrev pub server : Format ℕ
server = between 1 8 u8

-- a volume: 1 to 2^32 - 1
abbrev pub volume : Format ℕ
volume = between 1 4294967295 u32

-- how many operations or chunks there were: at most 2^32 - 1
abbrev pub count : Format ℕ
count = between 0 4294967295 u64

-- which operation or chunk it is, from 1
abbrev pub ordinal : Format ℕ
ordinal = between 1 4294967295 u64

-- a name: u8 length, bytes
abbrev pub name : Format (List ℕ)
name = where_holds is_name (counted u8)

-- the target of a link: 1 to 1,024 bytes behind a length
abbrev pub target : Size → Format (List ℕ)
target size = counted (between 1 1024 (number_of size))

-- the content of a file: at most 1 MiB behind a length
abbrev pub content : Size → Format (List ℕ)
content size = counted (between 0 1048576 (number_of size))

-- ---- fid: u32 volume, u32 vnode, u32 uniq

unfoldable pub fid : Format Fid
fid = record {
  form = do
    v ← u32
    vnode ← u32
    uniq ← u32
    gives (record { volume = v; vnode = vnode; uniq = uniq });
  piece = λ f. together (u32.piece f.volume ∷ u32.piece f.vnode ∷ u32.piece f.uniq ∷ []);
}

-- ---- sid: u8 client, u64 number

unfoldable pub sid : Format Sid
sid = record {
  form = do
    c ← u8
    number ← count
    gives (record { client = c; number = number });
  piece = λ s. together (u8.piece s.client ∷ count.piece s.number ∷ []);
}

-- ---- over: fid, sid

unfoldable pub over : Format Over
over = record {
  form = do
    f ← fid
    pre ← sid
    gives (record { fid = f; pre = pre });
  piece = λ o. together (fid.piece o.fid ∷ sid.piece o.pre ∷ []);
}

-- ---- attrs: u8 mask, 1 mode, 2 owner, 4 mtime, then u16, u32, u64 where set

abbrev pub setting : Option ℕ → Option ℕ → Option ℕ → Form Attrs
setting mode owner mtime = gives (record { mode = mode; owner = owner; mtime = mtime })

-- a bit of the mask, where a part is set
abbrev pub bit : ℕ → Option ℕ → ℕ
bit n None = 0
bit n (Some x) = n

-- a part, where it is set
abbrev pub where_set : Format ℕ → Option ℕ → Piece
where_set f None = empty
where_set f (Some x) = f.piece x

abbrev pub attrs_piece : Option ℕ → Option ℕ → Option ℕ → Piece
attrs_piece mode owner mtime =
    together ((between 1 7 u8).piece (bit 1 mode + bit 2 owner + bit 4 mtime) ∷ where_set u16 mode ∷ where_set u32 owner ∷ where_set u64 mtime ∷ [])

abbrev pub attrs_forms : List (ℕ × Form Attrs)
attrs_forms =
    ((1, u16 >>= λ m. setting (Some m) None None)
    ∷ (2, u32 >>= λ o. setting None (Some o) None)
    ∷ (3, u16 >>= λ m. u32 >>= λ o. setting (Some m) (Some o) None)
    ∷ (4, u64 >>= λ t. setting None None (Some t))
    ∷ (5, u16 >>= λ m. u64 >>= λ t. setting (Some m) None (Some t))
    ∷ (6, u32 >>= λ o. u64 >>= λ t. setting None (Some o) (Some t))
    ∷ (7, u16 >>= λ m. u32 >>= λ o. u64 >>= λ t. setting (Some m) (Some o) (Some t))
    ∷ [])

unfoldable pub attrs : Format Attrs
attrs = record {
  form = one_of attrs_forms;
  piece = λ a. attrs_piece a.mode a.owner a.mtime;
}

-- ---- op: u8 tag, then the fields

-- what a file and a directory are made from
abbrev pub creation : (Fid → List ℕ → Fid → ℕ → ℕ → Op) → Form Op
creation made = do
  dir ← fid
  n ← name
  f ← fid
  mode ← u16
  owner ← u32
  gives (made dir n f mode owner)

abbrev pub removal : (Fid → List ℕ → Fid → Sid → Op) → Form Op
removal made = do
  dir ← fid
  n ← name
  f ← fid
  pre ← sid
  gives (made dir n f pre)

unfoldable pub create_form : Form Op
create_form = creation (λ dir n f mode owner. Create dir n f mode owner)

unfoldable pub mkdir_form : Form Op
mkdir_form = creation (λ dir n f mode owner. Mkdir dir n f mode owner)

unfoldable pub symlink_form : Size → Form Op
symlink_form size = do
  dir ← fid
  n ← name
  f ← fid
  t ← target size
  mode ← u16
  owner ← u32
  gives (Symlink dir n f t mode owner)

unfoldable pub store_form : Size → Form Op
store_form size = do
  f ← fid
  pre ← sid
  c ← content size
  gives (Store f pre c)

unfoldable pub setattr_form : Form Op
setattr_form = do
  f ← fid
  pre ← sid
  a ← attrs
  gives (Setattr f pre a)

unfoldable pub remove_form : Form Op
remove_form = removal (λ dir n f pre. Remove dir n f pre)

unfoldable pub rmdir_form : Form Op
rmdir_form = removal (λ dir n f pre. Rmdir dir n f pre)

unfoldable pub rename_form : Form Op
rename_form = do
  from_dir ← fid
  from ← name
  to_dir ← fid
  to ← name
  f ← fid
  o ← optional over
  gives (Rename from_dir from to_dir to f o)

abbrev pub op_piece : Size → Op → Piece
op_piece size (Create dir n f mode owner) = together (u8.piece 1 ∷ fid.piece dir ∷ name.piece n ∷ fid.piece f ∷ u16.piece mode ∷ u32.piece owner ∷ [])
op_piece size (Mkdir dir n f mode owner) = together (u8.piece 2 ∷ fid.piece dir ∷ name.piece n ∷ fid.piece f ∷ u16.piece mode ∷ u32.piece owner ∷ [])
op_piece size (Symlink dir n f t mode owner) = together (u8.piece 3 ∷ fid.piece dir ∷ name.piece n ∷ fid.piece f ∷ (target size).piece t ∷ u16.piece mode ∷ u32.piece owner ∷ [])
op_piece size (Store f pre c) = together (u8.piece 4 ∷ fid.piece f ∷ sid.piece pre ∷ (content size).piece c ∷ [])
op_piece size (Setattr f pre a) = together (u8.piece 5 ∷ fid.piece f ∷ sid.piece pre ∷ attrs.piece a ∷ [])
op_piece size (Remove dir n f pre) = together (u8.piece 6 ∷ fid.piece dir ∷ name.piece n ∷ fid.piece f ∷ sid.piece pre ∷ [])
op_piece size (Rmdir dir n f pre) = together (u8.piece 7 ∷ fid.piece dir ∷ name.piece n ∷ fid.piece f ∷ sid.piece pre ∷ [])
op_piece size (Rename from_dir from to_dir to f o) = together (u8.piece 8 ∷ fid.piece from_dir ∷ name.piece from ∷ fid.piece to_dir ∷ name.piece to ∷ fid.piece f ∷ (optional over).piece o ∷ [])

abbrev pub op_forms : Size → List (ℕ × Form Op)
op_forms size =
    ((1, create_form)
    ∷ (2, mkdir_form)
    ∷ (3, symlink_form size)
    ∷ (4, store_form size)
    ∷ (5, setattr_form)
    ∷ (6, remove_form)
    ∷ (7, rmdir_form)
    ∷ (8, rename_form)
    ∷ [])

unfoldable pub op : Size → Format Op
op size = record {
  form = one_of (op_forms size);
  piece = op_piece size;
}

-- ---- record: u64 number, u64 time, op

-- whether a record's number may follow another
abbrev pub may_follow : ℕ → ℕ → Bool
may_follow before n = nat_lt before n && nat_le n 4294967295

-- a record whose number is above one
unfoldable pub record_above : Size → ℕ → Format Record
record_above size before = record {
  form = do
    number ← where_holds (may_follow before) u64
    time ← u64
    o ← op size
    gives (record { number = number; time = time; op = o });
  piece = λ r. together ((where_holds (may_follow before) u64).piece r.number ∷ u64.piece r.time ∷ (op size).piece r.op ∷ []);
}

-- records with increasing numbers
unfoldable pub records : Size → Format (List Record)
records size = list (record_above size) (λ r. r.number) 0

-- ---- reason: u8 tag 1 to 12, then its fids, sids or u64

abbrev pub reason_piece : Reason → Piece
reason_piece (NoDir f) = together (u8.piece 1 ∷ fid.piece f ∷ [])
reason_piece (Marked f) = together (u8.piece 2 ∷ fid.piece f ∷ [])
reason_piece (NoObject f) = together (u8.piece 3 ∷ fid.piece f ∷ [])
reason_piece (WrongKind f) = together (u8.piece 4 ∷ fid.piece f ∷ [])
reason_piece (NameTaken f) = together (u8.piece 5 ∷ fid.piece f ∷ [])
reason_piece (NameOther f) = together (u8.piece 6 ∷ (optional fid).piece f ∷ [])
reason_piece (FidUsed f) = together (u8.piece 7 ∷ fid.piece f ∷ [])
reason_piece (Changed kept found) = together (u8.piece 8 ∷ sid.piece kept ∷ sid.piece found ∷ [])
reason_piece (AttrChanged kept found) = together (u8.piece 9 ∷ sid.piece kept ∷ sid.piece found ∷ [])
reason_piece NotEmpty = together (u8.piece 10 ∷ [])
reason_piece Loop = together (u8.piece 11 ∷ [])
reason_piece (VolumeFull n) = together (u8.piece 12 ∷ u64.piece n ∷ [])

abbrev pub reason_forms : List (ℕ × Form Reason)
reason_forms =
    ((1, fid >>= λ f. gives (NoDir f))
    ∷ (2, fid >>= λ f. gives (Marked f))
    ∷ (3, fid >>= λ f. gives (NoObject f))
    ∷ (4, fid >>= λ f. gives (WrongKind f))
    ∷ (5, fid >>= λ f. gives (NameTaken f))
    ∷ (6, optional fid >>= λ f. gives (NameOther f))
    ∷ (7, fid >>= λ f. gives (FidUsed f))
    ∷ (8, sid >>= λ kept. sid >>= λ found. gives (Changed kept found))
    ∷ (9, sid >>= λ kept. sid >>= λ found. gives (AttrChanged kept found))
    ∷ (10, gives NotEmpty)
    ∷ (11, gives Loop)
    ∷ (12, u64 >>= λ n. gives (VolumeFull n))
    ∷ [])

unfoldable pub reason : Format Reason
reason = record {
  form = one_of reason_forms;
  piece = reason_piece;
}

-- ---- verdict: u8 0; or u8 1, u64 number, reason

abbrev pub verdict_piece : Verdict → Piece
verdict_piece verdicts.Applied = together (u8.piece 0 ∷ [])
verdict_piece (verdicts.Conflict n r) = together (u8.piece 1 ∷ ordinal.piece n ∷ reason.piece r ∷ [])

abbrev pub verdict_forms : List (ℕ × Form Verdict)
verdict_forms =
    ((0, gives verdicts.Applied)
    ∷ (1, ordinal >>= λ n. reason >>= λ r. gives (verdicts.Conflict n r))
    ∷ [])

unfoldable pub verdict : Format Verdict
verdict = record {
  form = one_of verdict_forms;
  piece = verdict_piece;
}
