-- The bounds of documents 01 and 02, each as a number in this one place; src/lib.rt has the same as constants.
use Rattle.std.specs.Prelude.{ℕ, ◌*◌, ◌^◌}

-- words an entry
abbrev pub width : ℕ
width = 2

abbrev pub entry_room : ℕ
entry_room = 1024

abbrev pub key_room : ℕ
key_room = 512

abbrev pub log_words : ℕ
log_words = entry_room * width

abbrev pub snapshot_words : ℕ
snapshot_words = key_room * width

abbrev pub last_index : ℕ
last_index = 4294967295

abbrev pub largest_batch : ℕ
largest_batch = 64

abbrev pub most_nodes : ℕ
most_nodes = 7

abbrev pub most_metadata : ℕ
most_metadata = 32

-- operations of a list; its constant is in `backend`
abbrev pub most_ops : ℕ
most_ops = 8

-- keys that one lookup may ask for, and the words of each reply
abbrev pub most_asked : ℕ
most_asked = 64

abbrev pub reply_width : ℕ
reply_width = 1

-- of an election: peers of a node, replies of a round, and outgoing messages; its constants are in
-- `ballot_leader_election`
abbrev pub most_peers : ℕ
most_peers = 6

abbrev pub most_replies : ℕ
most_replies = 16

abbrev pub most_outgoing : ℕ
most_outgoing = 32

-- a round and a ballot's number have 32 bits
abbrev pub last_round : ℕ
last_round = 4294967295

-- a block place is below this
abbrev pub places : ℕ
places = 2 ^ 48

-- the largest word: a removed key's
abbrev pub last_word : ℕ
last_word = 0xffff_ffff_ffff_ffff

-- a word that is no place and not a removed key's: an unknown key's, in a reply
abbrev pub unknown_word : ℕ
unknown_word = 0xffff_ffff_ffff_fffe
