-- What the words of a command line ask for.
use Rattle.std.specs.Prelude.{ℕ, nat_le, Bool, true, false, ◌&&◌, pos, ℤ, List, [], ◌∷◌, ◌++◌}
use Rattle.std.specs.Prelude.{codes}
use Rattle.std.specs.Prelude.{Option, Some, None, is_some, unwrap_or, option_map, option_and_then}
use Rattle.std.specs.Prelude.{if◌then◌else◌}
use Rattle.std.specs.Str.{bytes_eq}
use Rattle.m2m_names.specs.Ids.{number_written}
use Rattle.resource_model.specs.Home.{HomeData, default_home, first_bad, last_cse_type}
use Rattle.command_words.specs.Options.{Choice, option_value}

-- ---- the words that have a meaning of their own

-- the commands
abbrev pub http_word : List ℕ
http_word = codes "http"

abbrev pub replay_word : List ℕ
replay_word = codes "replay"

abbrev pub twin_word : List ℕ
twin_word = codes "twin"

abbrev pub serve_word : List ℕ
serve_word = codes "serve"

abbrev pub gen_word : List ℕ
gen_word = codes "gen"

abbrev pub snapshot_word : List ℕ
snapshot_word = codes "snapshot"

-- what the program is asked of itself
abbrev pub help_word : List ℕ
help_word = codes "help"

abbrev pub help_option : List ℕ
help_option = codes "--help"

abbrev pub version_option : List ℕ
version_option = codes "--version"

-- the options: what the entity is called, and who runs it
abbrev pub id_option : List ℕ
id_option = codes "--id"

abbrev pub base_option : List ℕ
base_option = codes "--base"

abbrev pub sp_option : List ℕ
sp_option = codes "--sp"

abbrev pub admin_option : List ℕ
admin_option = codes "--admin"

abbrev pub type_option : List ℕ
type_option = codes "--type"

-- where a server listens, and how many connections it accepts
abbrev pub listen_option : List ℕ
listen_option = codes "--listen"

abbrev pub accept_option : List ℕ
accept_option = codes "--accept"

-- how many connections it serves at a time, and what it logs
abbrev pub workers_option : List ℕ
workers_option = codes "--workers"

abbrev pub log_option : List ℕ
log_option = codes "--log"

-- the protocol of the connections
abbrev pub bind_option : List ℕ
bind_option = codes "--bind"

-- whether requests that ask for it are answered later
abbrev pub later_option : List ℕ
later_option = codes "--later"

-- the file in which a CSE is kept
abbrev pub journal_option : List ℕ
journal_option = codes "--journal"

-- what can be logged
abbrev pub requests_word : List ℕ
requests_word = codes "requests"

abbrev pub figures_word : List ℕ
figures_word = codes "figures"

abbrev pub faults_word : List ℕ
faults_word = codes "faults"

abbrev pub nothing_word : List ℕ
nothing_word = codes "nothing"

-- WebSocket, as a protocol of connections; the other is called as the command `http`
abbrev pub ws_word : List ℕ
ws_word = codes "ws"

-- that something is done, or isn't
abbrev pub yes_word : List ℕ
yes_word = codes "yes"

abbrev pub no_word : List ℕ
no_word = codes "no"

-- ---- the options that a command takes

-- The options that say what the home of the entity is.
abbrev pub home_options : List (List ℕ)
home_options = id_option ∷ base_option ∷ sp_option ∷ admin_option ∷ type_option ∷ []

-- The options that the commands take by which requests are served.
abbrev pub service_options : List (List ℕ)
service_options = later_option ∷ journal_option ∷ []

-- The options that only a server takes.
abbrev pub serving_options : List (List ℕ)
serving_options =
    listen_option ∷ accept_option ∷ workers_option ∷ log_option ∷ bind_option ∷ []

-- What `http`, `replay`, `twin` and `serve` take, and what `snapshot` takes behind the name of a file.
abbrev pub http_options : List (List ℕ)
http_options = home_options ++ service_options

abbrev pub replay_options : List (List ℕ)
replay_options = home_options

abbrev pub twin_options : List (List ℕ)
twin_options = home_options

abbrev pub serve_options : List (List ℕ)
serve_options = home_options ++ (serving_options ++ service_options)

abbrev pub snapshot_options : List (List ℕ)
snapshot_options = home_options

-- ---- what the options say

-- as many connections as a server can be told to accept
abbrev pub most_accepted : ℕ
most_accepted = 1_000_000_000

-- how many it serves at a time that is told nothing
abbrev pub usual_workers : ℕ
usual_workers = 256

-- as many as it can be told to serve at a time
abbrev pub most_workers : ℕ
most_workers = 4_096

-- as many requests as can be made
abbrev pub most_made : ℕ
most_made = 100_000

-- the count that a text says, which is at least 1 and at most this one
abbrev pub count_in : List ℕ → ℕ → Option ℕ
count_in text most = option_and_then
    (λ n. if nat_le 1 n && nat_le n most then Some n else None) (number_written text)

-- the CSE type that an option says, or else the usual one
abbrev pub cse_type_said : Option (List ℕ) → Option ℤ
cse_type_said None = Some default_home.cst
cse_type_said (Some text) = option_map (λ n. pos n) (count_in text last_cse_type)

-- the home, where each of its parts is admitted
abbrev pub admitted : HomeData → Option HomeData
admitted home = if is_some (first_bad home) then None else Some home

-- what options say of a home of this type: each part that none of them says is the usual one
abbrev pub home_of_type : ℤ → List Choice → HomeData
home_of_type cst os = record {
  sp = unwrap_or (option_value sp_option os) default_home.sp;
  csi = unwrap_or (option_value id_option os) default_home.csi;
  base = unwrap_or (option_value base_option os) default_home.base;
  cst = cst;
  admin = unwrap_or (option_value admin_option os) default_home.admin;
}

-- The home that options say, where it is admitted.
abbrev pub home_said : List Choice → Option HomeData
home_said os = option_and_then (λ cst. admitted (home_of_type cst os))
    (cse_type_said (option_value type_option os))

-- a line for each request, or for each fault alone, with or without figures, or nothing
pub data Logged : Type 0 where
  requests : Logged
  figures : Logged
  faults : Logged
  nothing : Logged

-- the protocol of the connections: HTTP or WebSocket
pub data Bind : Type 0 where
  over_http : Bind
  over_ws : Bind

-- Where a server listens, how many connections it accepts, where that is limited, how many it
-- serves at a time, what it logs, the protocol that it speaks on each, and whether requests that ask
-- for it are answered later.
pub record Serving : Type 0 where
  pub listen : List ℕ
  pub accept : Option ℕ
  pub workers : ℕ
  pub log : Logged
  pub bind : Bind
  pub later : Bool

-- where a server listens that is told nothing
abbrev pub usual_address : List ℕ
usual_address = codes "127.0.0.1:8080"

-- the limit that an option says, or else none
abbrev pub accept_said : Option (List ℕ) → Option (Option ℕ)
accept_said None = Some None
accept_said (Some text) = option_map (λ n. Some n) (count_in text most_accepted)

-- how many connections an option says that are served at a time, or else the usual number
abbrev pub workers_said : Option (List ℕ) → Option ℕ
workers_said None = Some usual_workers
workers_said (Some text) = count_in text most_workers

-- what a text says that is to be logged
abbrev pub logged_in : List ℕ → Option Logged
logged_in text = if bytes_eq text requests_word then Some requests
    else if bytes_eq text figures_word then Some figures
    else if bytes_eq text faults_word then Some faults
    else if bytes_eq text nothing_word then Some nothing
    else None

-- what an option says that is to be logged, or else the faults
abbrev pub log_said : Option (List ℕ) → Option Logged
log_said None = Some faults
log_said (Some text) = logged_in text

-- the protocol that a text says
abbrev pub bind_in : List ℕ → Option Bind
bind_in text = if bytes_eq text http_word then Some over_http
    else if bytes_eq text ws_word then Some over_ws
    else None

-- the protocol that an option says, or else HTTP
abbrev pub bind_said : Option (List ℕ) → Option Bind
bind_said None = Some over_http
bind_said (Some text) = bind_in text

-- whether a text says that something is done
abbrev pub is_yes : List ℕ → Option Bool
is_yes text = if bytes_eq text yes_word then Some true
    else if bytes_eq text no_word then Some false
    else None

-- whether an option says that requests are answered later, or else that they aren't
abbrev pub later_said : Option (List ℕ) → Option Bool
later_said None = Some false
later_said (Some text) = is_yes text

-- the server that options say
abbrev pub serving_said : List Choice → Option Serving
serving_said os = option_and_then (λ accept. option_and_then (λ workers.
    option_and_then (λ log. option_and_then (λ bind. option_map (λ later. record {
      listen = unwrap_or (option_value listen_option os) usual_address;
      accept = accept;
      workers = workers;
      log = log;
      bind = bind;
      later = later;
    }) (later_said (option_value later_option os)))
    (bind_said (option_value bind_option os)))
    (log_said (option_value log_option os)))
    (workers_said (option_value workers_option os)))
    (accept_said (option_value accept_option os))

-- ---- the command

-- what is to be done: one connection, whose requests may be answered later, a list of lines, such a
-- list for two entities, a server, or so many made requests
pub data Task : Type 0 where
  http : Bool → Task
  replay : Task
  twin : Task
  serve : Serving → Task
  generate : ℕ → Task

-- a task, and the home of the entity that it is for
pub record Command : Type 0 where
  pub task : Task
  pub home : HomeData

-- the file of a journal that an option names, if one does: its name isn't empty
abbrev pub file_said : Option (List ℕ) → Option (Option (List ℕ))
file_said None = Some None
file_said (Some []) = None
file_said (Some (c ∷ cs)) = Some (Some (c ∷ cs))
