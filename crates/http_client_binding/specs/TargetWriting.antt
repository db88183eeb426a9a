-- The target of a request, of a URL and of the address of the request (TS-0009, 6.2.2; RFC 9112,
-- section 3.2.1).
use Rattle.std.specs.Prelude.{ℕ, ◌-◌, ◌==◌, nat_eq, List, ◌∷◌, ◌++◌, length, take, drop, codes}
use Rattle.std.specs.Prelude.{Bool, not, ◌&&◌, slice_index, if◌then◌else◌}
use Rattle.std.specs.List.{starts_with}
use Rattle.http_uri.specs.ByteClasses.{slash, question_mark, index_of, split_once_front}
use Rattle.m2m_names.specs.Urls.{front_len}
use Rattle.http_target.specs.Targets.{has_segment, is_of_sp, has_provider, is_of_world}

-- ---- the parts of a URL

-- what stands behind the scheme
abbrev pub behind_scheme : List ℕ → List ℕ
behind_scheme url = drop front_len url

-- the host, and the port where it has one, as they are written: what stands before the next slash
abbrev pub host_of : List ℕ → List ℕ
host_of url = split_once_front slash (behind_scheme url)

-- the path with its query: what stands from that slash on, or nothing
abbrev pub path_and_query_of : List ℕ → List ℕ
path_and_query_of url = drop (index_of slash (behind_scheme url)) (behind_scheme url)

-- The path without a slash at its end.
abbrev pub without_last_slash : List ℕ → List ℕ
without_last_slash path =
    if slice_index path (length path - 1) == slash then take (length path - 1) path else path

-- the path without its query and without a last slash, which leads to an entity
abbrev pub root_path : List ℕ → List ℕ
root_path url = without_last_slash (split_once_front question_mark (path_and_query_of url))

-- ---- the path of an address

-- `/~/c/x` of `/c/x`, `/_/s/c/x` of `//s/c/x`, and else the address behind a slash (TS-0009,
-- 6.2.2.2)
abbrev pub path_of_address : List ℕ → List ℕ
path_of_address to =
    if starts_with nat_eq to (codes "//") then codes "/_" ++ drop 1 to
    else (if starts_with nat_eq to (codes "/") then codes "/~" ++ to else slash ∷ to)

-- the path stands for no other address: behind `//` stand a provider and a CSE-ID, behind `/` a
-- CSE-ID, and an address without a slash at the front isn't written as the path of such a one
abbrev pub has_own_path : List ℕ → Bool
has_own_path to =
    if starts_with nat_eq to (codes "//") then has_provider (drop 2 to)
    else (if starts_with nat_eq to (codes "/") then has_segment (drop 1 to)
    else not (is_of_sp (slash ∷ to)) && not (is_of_world (slash ∷ to)))
