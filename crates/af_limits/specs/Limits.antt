-- The limits of the server and of its clients: how many, how long, how much. Each number stands here, and nowhere else.
use Rattle.std.specs.Prelude.{ℕ, ◌+◌, ◌-◌, ◌*◌, ◌^◌}

-- ---- how many

-- links of a server at a time, numbered from 0
abbrev pub most_links : ℕ
most_links = 32

-- devices of a server, numbered from 0
abbrev pub most_devices : ℕ
most_devices = 8

-- audio contexts of a link
abbrev pub most_contexts : ℕ
most_contexts = 16

-- ---- how much sound

-- frames of a tick
abbrev pub longest_tick : ℕ
longest_tick = 4096

-- samples of a tick: a frame has two at most
abbrev pub most_tick_samples : ℕ
most_tick_samples = 2 * longest_tick

-- bytes that a device captures at once: a sample has four at most
abbrev pub longest_capture : ℕ
longest_capture = 4 * most_tick_samples

-- ---- how long a request and its reply are, in bytes

-- words of four bytes that a request has, with its header
abbrev pub most_words : ℕ
most_words = 4096

-- a request, which goes over the link as one frame
abbrev pub longest_frame : ℕ
longest_frame = 4 * most_words

-- the samples of a Play: a request without its first four words. No sample is shorter than a byte, so a Play has no more frames
abbrev pub longest_play : ℕ
longest_play = longest_frame - 16

-- the samples that a Record asks for
abbrev pub longest_record : ℕ
longest_record = 16000

-- a message, with its header: the reply to the longest Record
abbrev pub longest_message : ℕ
longest_message = 16 + longest_record

-- ---- what goes over a link at once, and what is kept of it, in bytes

-- one read of a link
abbrev pub longest_read : ℕ
longest_read = 16384

-- one step of a script sends as much as one read gives
abbrev pub longest_send : ℕ
longest_send = longest_read

-- unread input: a request that is not complete yet, and one read
abbrev pub most_unread : ℕ
most_unread = longest_frame + longest_read

-- requests of a link are performed while at most this much waits to be sent
abbrev pub perform_limit : ℕ
perform_limit = 16384

-- an event is queued for a link if then at most this much waits to be sent; else the link is dropped
abbrev pub event_limit : ℕ
event_limit = 49152

-- the most output that can wait to be sent: events up to their limit, and one reply
abbrev pub most_pending : ℕ
most_pending = event_limit + longest_message

-- the room for unsent output
abbrev pub output_room : ℕ
output_room = 65536

-- ---- how long a text is, in bytes

-- a script
abbrev pub longest_script : ℕ
longest_script = 1048576

-- a configuration
abbrev pub longest_config : ℕ
longest_config = 65536

-- the address of a server
abbrev pub longest_address : ℕ
longest_address = 64

-- ---- what a client takes

-- bytes that aplay reads of its source
abbrev pub longest_source : ℕ
longest_source = 2 ^ 40

-- events that come before an awaited reply
abbrev pub most_events : ℕ
most_events = 4096

-- events that a connection keeps: if more come, the oldest are lost
abbrev pub most_kept_events : ℕ
most_kept_events = 64
