mod Behind
mod LaterRequests
mod OwnRequests
