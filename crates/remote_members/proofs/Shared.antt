-- Threads share what attends to connections for the CSE of a home.
use denote.Param.Send.{IsSync, sendable}
use denote.Param.SendFields.{declared_sync}
use Rattle.std.proofs.Crossing.{crosses}
use Rattle.m2m_value.specs.contracts.text.Text as text
use Rattle.resource_model.specs.contracts.home.Home as home
use Rattle.resource_model.specs.contracts.home.Home.TheInside as home_inside
use Rattle.cse_server.specs.contracts.binding.HttpBinding as http
use Rattle.remote_members.specs.contracts.replier.Widely as widely
use Rattle.remote_members.specs.contracts.serving.WideService as service

text_sync : IsSync text.the_row
text_sync = search (sendable, crosses) depth 20

home_inside_sync : IsSync home_inside.the_row
home_inside_sync = declared_sync home_inside.the_type
    (text_sync, (text_sync, (text_sync, (search (sendable, crosses) depth 20, (text_sync, tt)))))

home_sync : IsSync home.the_row
home_sync = record { shared = λ d b o κ x. (home_inside_sync.shared x.0 b o κ, tt) }

widely_sync : IsSync widely.the_row
widely_sync = declared_sync widely.the_type (home_sync, tt)

http_sync : IsSync (http.the_row widely.the_row)
http_sync = declared_sync (http.the_type widely.the_row) (search (sendable, widely_sync) depth 20, tt)

pub service_sync : IsSync service.the_row
service_sync = declared_sync service.the_type (http_sync, tt)
