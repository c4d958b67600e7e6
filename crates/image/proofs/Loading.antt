-- A sound image loaded: its records are those of the state that it gives, each where it is looked for.
use Rattle.words.proofs.Prelude.{arith, ◌≡◌, refl, sym, ap, ap₂, ◌∙◌, ℕ, ◌+◌, ◌*◌, ◌≤◌, Bool, true, false, ltb}
use Rattle.words.proofs.Prelude.{le-ltb, if◌then◌else◌, Option, none, some, List, [], ◌∷◌}
use Rattle.words.proofs.Prelude.{append-nil, append_assoc, ◌++◌, map, length-append, length, drop}
use lib.Seq.{drop_at, drop-drop}
use Rattle.words.specs.All.{all_of}
use Rattle.words.proofs.Alls.{all_head, all_tail}
use Rattle.records.specs.Big.{are_bytes}
use Rattle.records.specs.Sealed.{unpacked, sealed}
use Rattle.entry.specs.Limits.{width, largest_batch, log_words}
use Rattle.entry.specs.Sign.{no_sign, sign_formed}
use Rattle.entry.specs.Change.{Change, change_formed, entries_formed, stored}
use Rattle.entry.specs.Guards.{first, replied, passes, Verdict, refuses, refused}
use Rattle.entry.specs.declared.StopSign.{StopSign}
use Rattle.model.specs.Log.{Log, given, if_given, or_empty, fresh_log}
use Rattle.model.proofs.Forms.{Formed, formed_of, snapshot_held_lem}
use Rattle.state_cache.specs.State.{raw, sign_or, index_of, Raw}
use Rattle.state_cache.specs.Run.{outcome}
use Rattle.state_cache.specs.declared.IndexRecord.{IndexRecord}
use Rattle.state_cache.proofs.Stands.{Stands, stands_raw}
use Rattle.image.specs.Layout.{key_mark, entry_mark, head_fields, head_size, Rec, key_rec, entry_rec, stop_rec}
use Rattle.image.specs.Layout.{change_fields, change_widths, change_size, run_bytes}
use Rattle.image.specs.Image.{metadata_held, head_of, stop_recs, image_of}
use Rattle.image.specs.Reading.{head_at, change_from, sign_at, sound_at, iff, rec_formed}
use Rattle.image.specs.Calls.{image_guards, state_in, read_image, loaded, lent_well, read_call}
use Rattle.image.specs.Inner.{index_from, changes_at, changes_bytes, Loadable}
use Rattle.image.specs.Typed.{change_typed, sign_typed}
use Rattle.image.specs.declared.Head.{Head}
use Rattle.image.specs.declared.Want.TheVariants.{Stop}
use Rattle.words.proofs.Tests.{both_true}
use Rattle.image.proofs.RecLaws.{change_fits, change_back, rec_back, rec_sound, iff_self, false_true}
use Rattle.image.proofs.HeadLaws.{head_length}
use Rattle.image.proofs.Theorems.{Told, written_read, key_room_lem}
use Rattle.image.proofs.Puts.{change_long, changes_long}
use Rattle.image.proofs.Writing.{run_changes}

-- ---- the call, by what was judged

module _ (size : ℕ) (bs log snapshot : List ℕ) where
  pub read_malformed : lent_well size log snapshot ≡ false
      → outcome (refused 11 0) (raw (index_of (fresh_log 0)) log snapshot) ≡ read_call size bs log snapshot
  unfolding read_call first
  read_malformed e = rw e

  module _ (w : lent_well size log snapshot ≡ true) where
    read_on : (v : Verdict) → v ≡ first (image_guards bs)
        → loaded v (state_in size bs) log snapshot ≡ read_call size bs log snapshot
    unfolding read_call first
    read_on v e = rw (w, e)

    pub read-refused : (n k : ℕ) → refuses n k ≡ first (image_guards bs)
        → outcome (refused n k) (raw (index_of (fresh_log 0)) log snapshot) ≡ read_call size bs log snapshot
    read-refused n k e = read_on (refuses n k) e

    pub read_loaded : passes ≡ first (image_guards bs)
        → loaded passes (state_in size bs) log snapshot ≡ read_call size bs log snapshot
    read_loaded e = read_on passes e

-- what was put is said again
pub changes_back : (mark : ℕ) → ltb mark 65536 ≡ true → (cs : List Change) (rest : List ℕ) → all_of change_typed cs ≡ true
    → entries_formed cs ≡ true → changes_at (length cs) (changes_bytes mark cs ++ rest) ≡ cs
unfolding changes_at changes_bytes
changes_back mark m [] rest t e = refl
changes_back mark m (c ∷ cs) rest t e =
    let one : List ℕ = sealed (change_fields mark c) in
    let more : List ℕ = changes_bytes mark cs ++ rest in
    ap (λ (l : List ℕ). change_from (unpacked change_widths l) ∷ changes_at (length cs) (drop change_size l))
    (append_assoc one (changes_bytes mark cs) rest)
    ∙ ap₂ (λ (x : Change) (l : List ℕ). x ∷ changes_at (length cs) l)
    (change_back mark c more (change_fits mark c m (all_head change_typed c cs t)) (all_head change_formed c cs e))
    (drop_at one more change_size (change_long mark c))
    ∙ ap (λ (l : List Change). c ∷ l)
    (changes_back mark m cs rest (all_tail change_typed c cs t) (all_tail change_formed c cs e))

-- the stop-sign, where one is held
abbrev sign_in : Rec → StopSign
sign_in (key_rec c) = no_sign
sign_in (entry_rec c) = no_sign
sign_in (stop_rec g) = g

stop_formed : (g : StopSign) → sign_formed g ≡ true → rec_formed 0 (Stop g.metadata_held) (stop_rec g) ≡ true
stop_formed g f = both_true (iff g.metadata_held g.metadata_held) _ (iff_self g.metadata_held) f

stop_sound : (g : Option StopSign) → if_given sign_typed g ≡ true → if_given sign_formed g ≡ true → given g ≡ true
    → sound_at 0 (Stop (metadata_held g)) (run_bytes (stop_recs g)) ≡ true
unfolding run_bytes
stop_sound none t f h = false_true h
stop_sound (some g) t f h = rec_sound 0 (Stop g.metadata_held) (stop_rec g) [] t (stop_formed g f)

stop_again : (g : Option StopSign) → if_given sign_typed g ≡ true → if_given sign_formed g ≡ true
    → (if given g then sign_at (metadata_held g) (run_bytes (stop_recs g)) else no_sign) ≡ sign_or g
unfolding run_bytes
stop_again none t f = refl
stop_again (some g) t f = ap sign_in (rec_back 0 (Stop g.metadata_held) (stop_rec g) [] t (stop_formed g f))

module _ (size : ℕ) (bs log snapshot : List ℕ) (b : are_bytes bs ≡ true) (x : Loadable size bs log snapshot) (h : Head)
    (there : h ≡ head_at bs) where
  abbrev s : Log
  s = state_in size bs

  told : Told size bs s
  unfolding read_image first
  told = written_read size bs s b (rw (le-ltb largest_batch size x.sized, x.sound))

  f : Formed s
  f = formed_of s told.good

  hd : head_of s ≡ h
  hd = told.head ∙ sym there

  abbrev ks : List Change
  ks = or_empty s.run.held

  abbrev es : List Change
  es = s.run.retained

  keys_count : length ks ≡ h.keys
  keys_count = ap (λ (y : Head). y.keys) hd

  entries_count : length es ≡ h.entries
  entries_count = ap (λ (y : Head). y.entries) hd

  -- what stands behind the header, behind the keys, and behind the entries
  abbrev tail : List ℕ
  tail = changes_bytes entry_mark es ++ run_bytes (stop_recs s.tail.sign)

  keys_long : length (changes_bytes key_mark ks) ≡ h.keys * change_size
  keys_long = changes_long key_mark ks ∙ ap (λ (n : ℕ). n * change_size) keys_count

  entries_long : length (changes_bytes entry_mark es) ≡ h.entries * change_size
  entries_long = changes_long entry_mark es ∙ ap (λ (n : ℕ). n * change_size) entries_count

  parts : sealed (head_fields (head_of s)) ++ (changes_bytes key_mark ks ++ tail) ≡ bs
  unfolding image_of
  parts =
      sym (ap (λ (l : List ℕ). sealed (head_fields (head_of s)) ++ l)
      (run_changes key_mark key_rec (λ c. refl) ks (map entry_rec es ++ stop_recs s.tail.sign)
      ∙ ap (λ (l : List ℕ). changes_bytes key_mark ks ++ l)
      (run_changes entry_mark entry_rec (λ c. refl) es (stop_recs s.tail.sign))))
      ∙ told.image

  after_head : drop head_size bs ≡ changes_bytes key_mark ks ++ tail
  after_head =
      ap (drop head_size) (sym parts)
      ∙ drop_at (sealed (head_fields (head_of s))) (changes_bytes key_mark ks ++ tail) head_size (head_length (head_of s))

  after_keys : drop (head_size + h.keys * change_size) bs ≡ tail
  after_keys =
      sym (drop-drop (h.keys * change_size) head_size bs)
      ∙ ap (drop (h.keys * change_size)) after_head
      ∙ drop_at (changes_bytes key_mark ks) tail (h.keys * change_size) keys_long

  after_entries : drop (head_size + h.keys * change_size + h.entries * change_size) bs ≡ run_bytes
      (stop_recs s.tail.sign)
  after_entries =
      sym (drop-drop (h.entries * change_size) (head_size + h.keys * change_size) bs)
      ∙ ap (drop (h.entries * change_size)) after_keys
      ∙ drop_at (changes_bytes entry_mark es) (run_bytes (stop_recs s.tail.sign)) (h.entries * change_size) entries_long

  pub load_head : head_size ≤ length bs
  load_head =
      omega (
        arith,
        ap length parts,
        length-append (sealed (head_fields (head_of s))) (changes_bytes key_mark ks ++ tail),
        head_length (head_of s),
      )

  pub load_room : head_size + h.keys * change_size + h.entries * change_size ≤ length bs
  load_room =
      omega (
        arith,
        ap length parts,
        length-append (sealed (head_fields (head_of s))) (changes_bytes key_mark ks ++ tail),
        length-append (changes_bytes key_mark ks) tail,
        length-append (changes_bytes entry_mark es) (run_bytes (stop_recs s.tail.sign)),
        head_length (head_of s),
        keys_long,
        entries_long,
      )

  pub keys_fit : h.keys * width ≤ length snapshot
  keys_fit = omega (arith, x.snapshot_long, key_room_lem s f, keys_count)

  pub entries_fit : h.entries * width ≤ length log
  entries_fit = omega (arith, x.log_long, f.numbers.room, entries_count)

  sign_held_lem : given s.tail.sign ≡ h.stop
  sign_held_lem = ap (λ (y : Head). y.stop) hd

  sign_metadata : metadata_held s.tail.sign ≡ h.metadata
  sign_metadata = ap (λ (y : Head). y.metadata) hd

  pub load_sound : h.stop ≡ true
      → sound_at 0 (Stop h.metadata) (drop (head_size + h.keys * change_size + h.entries * change_size) bs) ≡ true
  load_sound e =
      ap₂ (λ (m : Bool) (l : List ℕ). sound_at 0 (Stop m) l) (sym sign_metadata) after_entries
      ∙ stop_sound s.tail.sign told.typed.sign f.stop (sign_held_lem ∙ e)

  keys_loaded : changes_at h.keys (drop head_size bs) ≡ ks
  keys_loaded =
      ap₂ changes_at (sym keys_count) after_head
      ∙ changes_back key_mark refl ks tail told.typed.keys (snapshot_held_lem s.run.held f.snapshot).fine

  entries_loaded : changes_at h.entries (drop (head_size + h.keys * change_size) bs) ≡ es
  entries_loaded =
      ap₂ changes_at (sym entries_count) after_keys
      ∙ changes_back entry_mark refl es (run_bytes (stop_recs s.tail.sign)) told.typed.entries f.entries

  abbrev sign_there : StopSign
  sign_there =
      if h.stop
      then sign_at h.metadata (drop (head_size + h.keys * change_size + h.entries * change_size) bs)
      else no_sign

  sign_loaded : sign_there ≡ sign_or s.tail.sign
  sign_loaded =
      ap₂ (λ (t : Bool) (g : StopSign). if t then g else no_sign) (sym sign_held_lem)
      (ap₂ sign_at (sym sign_metadata) after_entries)
      ∙ stop_again s.tail.sign told.typed.sign f.stop

  pub load_whole : (log' snapshot' : List ℕ) (g : StopSign) (y : IndexRecord)
      → snapshot' ≡ stored (length snapshot) (changes_at h.keys (drop head_size bs))
      → log' ≡ stored (length log) (changes_at h.entries (drop (head_size + h.keys * change_size) bs)) → g ≡ sign_there
      → y ≡ index_from size h g → outcome (replied h.accepted) (raw y log' snapshot') ≡ loaded passes s log snapshot
  load_whole log' snapshot' g y p q t u =
      ap (λ (i : IndexRecord). outcome (replied h.accepted) (raw i log' snapshot')) u
      ∙ ap₂ (λ (n : ℕ) (r : Raw). outcome (replied n) r) (sym (ap (λ (k : Head). k.accepted) hd))
      (sym (stands_raw s _ stands))
    where
      stands : Stands s (raw (index_from size h g) log' snapshot')
      stands = record {
        run = record {
          start = ap (λ (k : Head). k.compacted) hd;
          count = entries_count;
          snapshot = ap (λ (k : Head). k.snapshot) hd;
          snapshot_keys = keys_count;
        };
        tail = record { count = refl; sized = refl; stopped = sign_held_lem; sign = sym (t ∙ sign_loaded) };
        marks = record {
          index = ap (λ (k : Head). k.decided) hd;
          promised = ap (λ (k : Head). k.promise) hd;
          rounded = ap (λ (k : Head). k.round) hd;
        };
        log =
            ap (stored log_words) (append-nil es)
            ∙ sym (q ∙ ap₂ stored x.log_long entries_loaded);
        snapshot = sym (p ∙ ap₂ stored x.snapshot_long keys_loaded);
      }
